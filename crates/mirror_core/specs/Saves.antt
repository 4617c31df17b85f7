-- What a frame adds to the note.
use Rattle.std.specs.Prelude.{ℕ, Bool, if◌then◌else◌, nat_lt, [], ◌∷◌, ◌++◌, Option, Some, None}
pub use Rattle.node.specs.Steps.{unless_refused, is_answer}
use Rattle.verify_state.specs.State.{State}
use Rattle.messages.specs.declared.frame.Frame.{Frame}
use Rattle.verify_state.specs.StateTable.{kept_of}
use Rattle.mirror_core.specs.declared.note.MirrorNote.{MirrorNote}
use Rattle.mirror_core.specs.declared.request.Request.{Request}
use Rattle.mirror_core.specs.declared.request.Request.TheVariants.{Copy, Fetch}
use Rattle.mirror_core.specs.Requests.{request_in}
use Rattle.mirror_core.specs.Refusals.{refusal_by}

-- A greater generation, or one more state.
pub data Addition : Type 0 where
  Grant : ℕ → Addition
  Keep : State → Addition

-- The note with the addition.
abbrev pub with_addition : Addition → MirrorNote → MirrorNote
with_addition (Grant generation) n = record { generation = generation; kept = n.kept }
with_addition (Keep state) n = record { generation = n.generation; kept = n.kept ++ state ∷ [] }

-- A state is added where none of its key is kept.
abbrev pub unless_kept : Option State → State → Option Addition
unless_kept None state = Some (Keep state)
unless_kept (Some kept) state = None

-- What is added for what is asked for: a state of a key of which none is kept, or a generation that
-- is greater than the note's.
abbrev pub addition_by : MirrorNote → Request → Option Addition
addition_by n (Copy state) = unless_kept (kept_of state.key n.kept) state
addition_by n (Fetch generation) =
    if nat_lt n.generation generation then Some (Grant generation) else None

-- What is added for a frame that isn't refused.
abbrev pub addition_of : MirrorNote → Option Request → Option Addition
addition_of n None = None
addition_of n (Some request) = addition_by n request

-- What a frame is due to add to the note.
abbrev pub due_by : Bool → MirrorNote → Frame → Option Addition
due_by on n f = unless_refused (refusal_by on n f) (addition_of n (request_in f))

-- An addition counts where the new bytes are there.
abbrev pub noted_after : Bool → Option Addition → MirrorNote → MirrorNote
noted_after new None n = n
noted_after new (Some addition) n = if new then with_addition addition n else n
