-- The attempts of a client's life, by the list of all that came to it, the newest first.
use Rattle.std.specs.Prelude.{ℕ, ◌+◌, Bool, ◌&&◌, ◌==◌, if◌then◌else◌, List, [], ◌∷◌, ◌++◌, Option, find}
use Rattle.client_core.specs.Inputs.{PacketInput, Verify}
use Rattle.client_core.specs.declared.note.ClientNote.{ClientNote}
use Rattle.client_core.specs.History.{Opening, Entry, Met, Cut, Restart, Renew, Lose}
use Rattle.client_core.specs.Words.{words_noted, is_answered}
use Rattle.attempt_ends.specs.declared.attempts.Attempted.{Attempted}
use Rattle.attempt_ends.specs.Asked.{places_asked}

-- What is kept of the attempts, with room for so many more.
pub record AttemptsKept : Type 0 where
  pub made : List Attempted
  pub room : ℕ

-- The attempt that an answered call makes, if it makes one: it asks for the places of its text, by
-- the states that the note keeps then.
abbrev pub attempt_by : ℕ → ClientNote → PacketInput → List Attempted
attempt_by servers n (Verify run text) = record {
  attempt = n.attempts + 1;
  run = run;
  asked = places_asked servers run text n.kept;
} ∷ []
attempt_by servers n _ = []

-- The attempts that were made since the last restart, in their order.
abbrev pub attempts_made : Opening → List Entry → List Attempted
attempts_made opening [] = []
attempts_made opening (Met c left ∷ past) =
    if is_answered opening past c left
    then attempts_made opening past ++ attempt_by opening.servers (words_noted opening past) c
    else attempts_made opening past
attempts_made opening (Cut ∷ past) = []
attempts_made opening (Restart mirror ∷ past) = []
attempts_made opening (Renew g left ∷ past) = []
attempts_made opening (Lose ∷ past) = []

-- An attempt has this number, and verifies this run.
abbrev pub is_attempt_of : ℕ → ℕ → Attempted → Bool
is_attempt_of run attempt made = (made.attempt == attempt) && (made.run == run)

-- The attempt with this number, where it was made and verifies this run.
abbrev pub attempt_of : ℕ → ℕ → List Attempted → Option Attempted
attempt_of run attempt made = find (is_attempt_of run attempt) made
