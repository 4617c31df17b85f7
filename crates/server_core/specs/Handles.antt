-- How a machine handles one input.
use Rattle.std.specs.Prelude.{◌≡◌, ◌⊎◌, ℕ, true, List, [], Some, None, Result, Ok, Err}
use Rattle.fc_base.specs.declared.fault.Fault.{Fault}
use Rattle.fc_base.specs.declared.fault.Fault.TheVariants.{NoMemory}
use Rattle.engine.specs.declared.issue.Issue.{Issue}
use Rattle.messages.specs.declared.refusal.Act.TheVariants as acts
use Rattle.server_core.specs.declared.machine.Machine.{Machine}
use Rattle.server_core.specs.declared.outs.Outs.{Outs}
use Rattle.server_core.specs.Request.{Request}
use Rattle.server_core.specs.Words.{due_by}
use Rattle.server_core.specs.Replies.{Now, replies}
use Rattle.server_core.specs.Answers.{refusal_of, issue_for, act_of}
use Rattle.server_core.specs.Framed.{frames_to_client}
use Rattle.server_core.specs.Stands.{MachineIs}
use Rattle.server_core.specs.WordsAfter.{words_after}

-- The request isn't refused; these are its frames, what it is answered of writes and what the
-- caller is asked to do; and what is left is what is kept of the words behind it.
pub record Answered (now : Now) (x : Request) (new : Machine) (outs : Outs) : Type 0 where
  pub free : refusal_of now x ≡ None
  pub frames_are : outs.frames ≡ frames_to_client now.server (replies now x)
  pub issue_is : outs.issue ≡ issue_for now.run x
  pub act_is : outs.act ≡ act_of now.run x
  pub left : MachineIs new (words_after now x)

-- Memory ran out, or the request is refused for this reason; and what was kept stays as it was.
pub record Unanswered (now : Now) (x : Request) (fault : Fault) (old new : Machine) : Type 0 where
  pub why : (fault ≡ NoMemory) ⊎ (refusal_of now x ≡ Some fault)
  pub same : new ≡ old

-- How a request is handled.
abbrev pub Handled : Now → Request → Machine → Machine → Result Outs Fault → Type 0
Handled now x old new (Ok outs) = Answered now x new outs
Handled now x old new (Err fault) = Unanswered now x fault old new

-- P holds of all words of which this is kept, and in which the request is not due to record a run.
abbrev pub EachUndue : Machine → Request → (Now → Type 0) → Type 0
EachUndue machine x P =
    (now : Now) → MachineIs machine now → due_by true now.last now.staged now.run x ≡ None → P now

-- These frames, and nothing else.
abbrev pub sent_alone : List (List ℕ) → Outs
sent_alone frames = record { frames = frames; issue = None; act = acts.None }

-- What a request for a write is answered, and nothing else.
abbrev pub outs_of_issue : Result Issue Fault → Result Outs Fault
outs_of_issue (Ok issue) = Ok (record { frames = []; issue = Some issue; act = acts.None })
outs_of_issue (Err fault) = Err fault

-- The end of a write was heard, and nothing is handed out.
abbrev pub outs_of_end : Result (Unit {0}) Fault → Result Outs Fault
outs_of_end (Ok heard) = Ok (sent_alone [])
outs_of_end (Err fault) = Err fault

-- A request that is refused leaves what is kept of the words behind it, too.
abbrev pub RefusedStays : Type 0
RefusedStays =
    (machine : Machine) (now : Now) (x : Request) (fault : Fault) →
    MachineIs machine now → refusal_of now x ≡ Some fault → MachineIs machine (words_after now x)
