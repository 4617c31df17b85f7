-- What holds of the ends of every attempt.
use Rattle.std.specs.Prelude.{◌≡◌, ℕ, ◌<◌, ◌≤◌, Bool, true, List, [], ◌∷◌, ◌++◌, Some, Option, IsTrue}
use Rattle.std.specs.List.{AllByRecursion}
use Rattle.fc_base.specs.declared.limits.TheConstants.{MAX_JOBS, MAX_SERVERS}
use Rattle.fc_base.specs.declared.report.ReportParts.{ReportParts}
use Rattle.verify_state.specs.State.{State}
use Rattle.messages.specs.declared.body.Body.TheVariants.{Saved, WantState}
use Rattle.client_core.specs.declared.received.Received.{Received}
use Rattle.client_core.specs.History.{Opening, Entry}
use Rattle.client_core.specs.Life.{Deed, life}
use Rattle.client_core.specs.Laws.{loses_nothing}
use Rattle.client_core.specs.Packets.{to_server, replies}
use Rattle.client_core.specs.Reports.{reports}
use Rattle.client_core.specs.Words.{words_noted, kept_state}
use Rattle.attempt_ends.specs.declared.conclusion.AttemptEnd.TheVariants.{Sound}
use Rattle.attempt_ends.specs.declared.asked.AskedPlace.{AskedPlace}
use Rattle.attempt_ends.specs.declared.attempts.Attempted.{Attempted}
use Rattle.attempt_ends.specs.declared.place.Place.{Place}
use Rattle.attempt_ends.specs.Places.{key_at}
use Rattle.attempt_ends.specs.Asked.{asked_in}
use Rattle.attempt_ends.specs.Attempts.{attempts_made, attempt_of}
use Rattle.attempt_ends.specs.PlaceEnds.{is_kept, report_of}
use Rattle.attempt_ends.specs.AttemptEnds.{attempt_end, ends_told}

-- A place was checked by its state: the attempt was made, and asks for it by its state; and the
-- report of it has come, which checked some blocks and found none at fault.
pub record IsSound (opening : Opening) (past : List Entry) (run attempt : ℕ) (place : Place) : Type 0 where
  pub made : Attempted
  pub is_made : attempt_of run attempt (attempts_made opening past) ≡ Some made
  pub asked : AskedPlace
  pub is_asked : asked_in place made.asked ≡ Some asked
  pub by_state : asked.by_state ≡ true
  pub received : Received
  pub came : report_of attempt place (reports (life opening past)) ≡ Some received
  pub some : 1 ≤ received.report.checked
  pub none_at_fault : received.report.faults ≡ 0

-- Where the word for all places is sound, each place of which a state of the run is kept was
-- checked by its state.
abbrev pub SoundChecksAll : Type 0
SoundChecksAll =
    (opening : Opening) (past : List Entry) (run attempt : ℕ) (place : Place) →
    place.server < MAX_SERVERS → place.job < MAX_JOBS →
    attempt_end (ends_told opening past run attempt) ≡ Sound →
    IsTrue (is_kept opening past run place) → IsSound opening past run attempt place

-- Where the check of a place is by a state, a state of its key is kept, and whoever wants it of its
-- server for this attempt is given that, and is not told that there is none.
abbrev pub IsGiven : Opening → List Entry → Attempted → AskedPlace → Type 0
IsGiven opening past made asked =
    asked.by_state ≡ true → (mirror : Bool) (deeds : List Deed) →
    (state : State) × (kept_state opening past (key_at made.run asked.place) ≡ Some state)
    × (replies mirror (words_noted opening past) deeds asked.place.server
    (WantState made.run made.attempt asked.place.job)
    ≡ to_server (Saved made.attempt state) asked.place.server ∷ [])

-- Each state by which an attempt of this life checks is kept from the attempt on, and given to the
-- server that wants it for the attempt, whatever comes but the loss of the note.
abbrev pub StatesAreGiven : Type 0
StatesAreGiven =
    (opening : Opening) (newer past : List Entry) → IsTrue (loses_nothing newer) →
    AllByRecursion (λ made. AllByRecursion (IsGiven opening (newer ++ past) made) made.asked)
    (attempts_made opening past)
