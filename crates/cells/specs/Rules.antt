-- The rules of a node under its lock, whichever node it is.
use Rattle.std.specs.Prelude.{Bool, List, Option}
use Rattle.fc_base.specs.declared.fault.Fault.{Fault}
use Rattle.messages.specs.declared.frame.Frame.{Frame}
use Rattle.messages.specs.declared.refusal.Act.TheVariants as acts
use Rattle.cells.specs.declared.answer.Answer.TheVariants.{Plain}
use Rattle.cells.specs.declared.answer.Reply.{Reply}
use Rattle.cells.specs.declared.input.NodeInput.{NodeInput}

-- What is told of what is done, and has no answer.
abbrev pub plain_reply : Reply
plain_reply = record { answer = Plain; act = acts.None }

-- What is asked of a node: something that its core meets, a cut, a restart; or what isn't for this
-- node.
pub data Ask (E : Type 0) : Type 0 where
  Meets : E → Ask E
  Cuts : Ask E
  Restarts : Ask E
  Nothing : Ask E

-- The rules of a node whose core meets inputs E and stands for lists of entries X, newest first.
-- They are made of what is known of its core (`CoreRules`), and have a name of their own since a
-- history is replayed by what lists say: of no state need there be anything.
pub record Rules (E X : Type 0) : Type 0 where
  pub opened : List X  -- the list with which the node opens
  pub asked : NodeInput → Ask E  -- what is asked by what comes
  pub refusal : List X → Ask E → Option Fault  -- why it is refused, if it is
  pub loads : List X → Ask E → Bool  -- the note is loaded, which may fail
  pub said : List X → Ask E → Reply  -- what is answered
  pub added : List X → Ask E → Option X  -- the entry that is added where all goes well
  pub passed : List X → Ask E → Fault → List X  -- the list behind a refusal for this reason
  pub lost : List X → Ask E → Bool → Option X  -- the entry of a save that failed and left the new bytes, or the old
  pub frames : List X → X → List Frame  -- the frames that an entry sends
