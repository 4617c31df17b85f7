-- What a call adds to the note.
use Rattle.std.specs.Prelude.{◌+◌, Bool, if◌then◌else◌, [], ◌∷◌, ◌++◌, Option, Some, None}
pub use Rattle.node.specs.Steps.{unless_refused, is_answer}
use Rattle.verify_state.specs.State.{State}
use Rattle.messages.specs.declared.body.Body.{Body}
use Rattle.messages.specs.declared.body.Body.TheVariants as bodies
use Rattle.client_core.specs.Inputs.{PacketInput, Begin, Trigger, Stop, Verify, Deliver, Tick}
use Rattle.verify_state.specs.StateTable.{kept_of}
use Rattle.client_core.specs.declared.note.ClientNote.{ClientNote}
use Rattle.client_core.specs.declared.peers.Peers.{Peers}
use Rattle.client_core.specs.Refusals.{refusal_by}

-- One more run, one more attempt, or one more state.
pub data Addition : Type 0 where
  NextRun : Addition
  NextAttempt : Addition
  Keep : State → Addition

-- The note with the addition.
abbrev pub with_addition : Addition → ClientNote → ClientNote
with_addition NextRun n = record n { runs = n.runs + 1 }
with_addition NextAttempt n = record n { attempts = n.attempts + 1 }
with_addition (Keep state) n = record n { kept = n.kept ++ state ∷ [] }

-- A state is added where none of its key is kept.
abbrev pub unless_kept : Option State → State → Option Addition
unless_kept None state = Some (Keep state)
unless_kept (Some kept) state = None

-- What is added for what a server or the mirror says.
abbrev pub addition_by : ClientNote → Body → Option Addition
addition_by n (bodies.State jobs state) = unless_kept (kept_of state.key n.kept) state
addition_by n (bodies.Copy state) = unless_kept (kept_of state.key n.kept) state
addition_by n _ = None

-- What is added for a call that isn't refused.
abbrev pub addition_of : ClientNote → PacketInput → Option Addition
addition_of n (Begin text) = Some NextRun
addition_of n (Trigger run act) = None
addition_of n (Stop run) = None
addition_of n (Verify run text) = Some NextAttempt
addition_of n (Deliver p) = addition_by n p.body
addition_of n Tick = None

-- What a call is due to add to the note.
abbrev pub due_by : Bool → Peers → ClientNote → PacketInput → Option Addition
due_by on peers n c = unless_refused (refusal_by on peers n c) (addition_of n c)

-- An addition counts where the new bytes are there.
abbrev pub noted_after : Bool → Option Addition → ClientNote → ClientNote
noted_after new None n = n
noted_after new (Some addition) n = if new then with_addition addition n else n
