-- The steps of the client's filter. Only the proofs go by these.
use Rattle.std.specs.Prelude.{◌≡◌, ℕ, List, [], ◌∷◌, ◌++◌, Option, Some, None, Result, Ok, Err}
use Rattle.fc_base.specs.declared.fault.Fault.{Fault}
use Rattle.client_core.specs.declared.client.Client.{Client}
use Rattle.client_core.specs.declared.note.ClientNote.{ClientNote}
use Rattle.client_core.specs.History.{Opening}
use Rattle.client_core.specs.Note.{Says}
use Rattle.client_core.specs.FrameEnds.{note_in}
use Rattle.client_core.specs.Hearing.{FrameEntry, packets_heard}
use Rattle.client_core.specs.Inputs.{FrameInput}
use Rattle.client_core.specs.Inputs as inputs
use Rattle.attempt_ends.specs.declared.asked.AskedPlace.{AskedPlace}
use Rattle.attempt_ends.specs.declared.attempts.Attempted.{Attempted}
use Rattle.attempt_ends.specs.Attempts.{attempt_by, attempts_made}
use Rattle.filters.specs.declared.node_step.NodeStep.{NodeStep}
use Rattle.filters.specs.ClientSteps.{noted}
use Rattle.filters.specs.declared.beginning.Beginning.{Beginning}
use Rattle.filters.specs.declared.client_filter.ClientFilter.{ClientFilter}
use Rattle.filters.specs.declared.note_buffer.NoteBuffer.{NoteBuffer}
use Rattle.filters.specs.Kept.{note_kept}
use Rattle.filters.specs.ClientLives.{ClientAt, IsAt, BeginsBehind, MayBegin, RefusesNote, first_note}

-- The client's filter is at this moment: its client is, which drives so many servers, and it knows
-- the attempts that were made in this life.
pub record FilterIsAt (filter : ClientFilter) (opening : Opening) (at : ClientAt) : Type 0 where
  pub client : IsAt note_kept filter.client opening at
  pub servers : opening.servers ≡ filter.servers
  pub attempts : filter.attempts.made ≡ attempts_made opening (packets_heard opening at.list)

-- The attempts that an input makes which is answered.
abbrev pub attempts_by : Opening → List FrameEntry → FrameInput → List Attempted
attempts_by opening past (inputs.Verify run text) =
    attempt_by opening.servers (noted opening past) (inputs.Verify run text)
attempts_by opening past _ = []

-- The attempt with a number, where one was given, of a run, which asks for these places.
abbrev pub attempts_numbered : ℕ → List AskedPlace → Option ℕ → List Attempted
attempts_numbered run asked (Some n) = record { attempt = n; run = run; asked = asked } ∷ []
attempts_numbered run asked None = []

-- The attempts that come of what a record says, by how that ends.
abbrev pub attempts_added : Opening → List FrameEntry → Result FrameInput Fault → Result NodeStep Fault
    → List Attempted
attempts_added opening past (Ok e) (Ok a) = attempts_by opening past e
attempts_added opening past (Ok e) (Err fault) = []
attempts_added opening past (Err why) result = []

-- What the filter knows of its attempts goes on with what a record says.
abbrev pub AttemptsGoOn : Opening → List FrameEntry → Result FrameInput Fault → ClientFilter
    → ClientFilter → Result NodeStep Fault → Type 0
AttemptsGoOn opening past asked old new result =
    opening.servers ≡ old.servers → new.attempts.made
    ≡ old.attempts.made ++ attempts_added opening past asked result

-- What the filter knows of its attempts stays as it was.
pub record SameAttempts (old new : ClientFilter) : Type 0 where
  pub attempts : new.attempts ≡ old.attempts
  pub servers : new.servers ≡ old.servers

-- A client is opened: it may begin so, it has the note with which it begins, and it is where it
-- begins.
pub record IsOpened (beginning : Beginning) (servers : ℕ) (note : List ℕ)
    (client : Client NoteBuffer) : Type 0 where
  pub may : MayBegin beginning note
  pub said : ClientNote
  pub says : Says note said
  pub saved : (note_in note_kept client).bytes ≡ first_note beginning note
  pub begins : (opening : Opening) (first : ClientAt) →
      BeginsBehind beginning servers note opening first →
      IsAt note_kept client opening first

-- A client is opened, or why none is.
abbrev pub OpensOver : Beginning → ℕ → List ℕ → Result (Client NoteBuffer) Fault → Type 0
OpensOver beginning servers note (Ok client) = IsOpened beginning servers note client
OpensOver beginning servers note (Err fault) = RefusesNote beginning note fault
