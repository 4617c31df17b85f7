-- No run and no attempt of a client has the number of another one, nor another text.
use Rattle.std.specs.Prelude.{◌≡◌, ◌⊎◌, ℕ, ◌<◌, ◌≤◌, Bool, not, ◌&&◌, nat_lt, List, [], ◌∷◌, Contains, IsTrue}
use Rattle.std.specs.List.{AllByRecursion, flat_map}
use Rattle.fc_base.specs.Counted.{has, is_distinct}
use Rattle.messages.specs.declared.packet.PacketParts.{PacketParts}
use Rattle.messages.specs.declared.body.Body.TheVariants as bodies
use Rattle.messages.specs.Ranges.{is_generation}
use Rattle.client_core.specs.Note.{is_blank}
use Rattle.client_core.specs.History.{Opening, Entry, Restart, Renew}
use Rattle.client_core.specs.Words.{words_noted}
use Rattle.client_core.specs.Life.{Deed, Begins, Verifies, deeds_done}
use Rattle.client_core.specs.Packets.{sent_packets}
use Rattle.client_core.specs.Laws.{loses_nothing}

-- The run that a deed begins.
abbrev pub run_in : Deed → List ℕ
run_in (Begins run text) = run ∷ []
run_in _ = []

-- The attempt by which a deed verifies.
abbrev pub attempt_in : Deed → List ℕ
attempt_in (Verifies run attempt text) = attempt ∷ []
attempt_in _ = []

-- The runs that were begun, the newest first.
abbrev pub runs_in : List Deed → List ℕ
runs_in deeds = flat_map run_in deeds

-- The attempts to verify, the newest first.
abbrev pub attempts_in : List Deed → List ℕ
attempts_in deeds = flat_map attempt_in deeds

-- No number stands twice, all are above the first, and none is above the last.
pub record AreFresh (first last : ℕ) (numbers : List ℕ) : Type 0 where
  pub distinct : IsTrue (is_distinct numbers)
  pub above : AllByRecursion (λ n. first < n) numbers
  pub below : AllByRecursion (λ n. n ≤ last) numbers

-- No run is given twice, whatever was cut and failed to be saved, where the note isn't lost.
abbrev pub RunsAreFresh : Type 0
RunsAreFresh =
    (opening : Opening) (past : List Entry) → IsTrue (loses_nothing past) →
    AreFresh opening.noted.runs (words_noted opening past).runs (runs_in (deeds_done opening past))

-- No attempt is given twice.
abbrev pub AttemptsAreFresh : Type 0
AttemptsAreFresh =
    (opening : Opening) (past : List Entry) → IsTrue (loses_nothing past) →
    AreFresh opening.noted.attempts (words_noted opening past).attempts
    (attempts_in (deeds_done opening past))

-- The generations of the renewals, the newest first.
abbrev pub generations : List Entry → List ℕ
generations [] = []
generations (Renew g left ∷ past) = g ∷ generations past
generations (_ ∷ past) = generations past

-- The client is one with a mirror: a blank note opens it, each restart has the mirror and a note of
-- a generation, and no two renewals are of one.
abbrev pub is_mirrored : Opening → List Entry → Bool
is_mirrored opening [] = is_blank opening.noted
is_mirrored opening (Restart mirror ∷ past) =
    (mirror && nat_lt 0 (words_noted opening past).generation) && is_mirrored opening past
is_mirrored opening (Renew g left ∷ past) =
    (is_generation g && not (has (generations past) g)) && is_mirrored opening past
is_mirrored opening (_ ∷ past) = is_mirrored opening past

-- The note isn't lost, or the client is one with a mirror.
abbrev pub KeepsNumbersApart : Opening → List Entry → Type 0
KeepsNumbersApart opening past = IsTrue (loses_nothing past) ⊎ IsTrue (is_mirrored opening past)

-- No number is given twice, whatever was lost, where the client is one with a mirror.
pub record AreGivenOnce (opening : Opening) (past : List Entry) : Type 0 where
  pub runs : IsTrue (is_distinct (runs_in (deeds_done opening past)))
  pub attempts : IsTrue (is_distinct (attempts_in (deeds_done opening past)))

-- Where numbers are kept apart, no run and no attempt is given twice.
abbrev pub NumbersAreGivenOnce : Type 0
NumbersAreGivenOnce =
    (opening : Opening) (past : List Entry) → KeepsNumbersApart opening past →
    AreGivenOnce opening past

-- All Jobs packets of a run carry the same text, to whichever servers they go.
abbrev pub OneTextOfARun : Type 0
OneTextOfARun =
    (opening : Opening) (past : List Entry) (p q : PacketParts) (run : ℕ) (text other : List ℕ) →
    KeepsNumbersApart opening past →
    Contains (sent_packets opening past) p → p.body ≡ bodies.Jobs run text →
    Contains (sent_packets opening past) q → q.body ≡ bodies.Jobs run other → text ≡ other

-- All Verify packets of an attempt carry the same run and text.
abbrev pub OneTextOfAnAttempt : Type 0
OneTextOfAnAttempt =
    (opening : Opening) (past : List Entry) (p q : PacketParts) (attempt run run_there : ℕ)
    (text other : List ℕ) →
    KeepsNumbersApart opening past →
    Contains (sent_packets opening past) p → p.body ≡ bodies.Verify run attempt text →
    Contains (sent_packets opening past) q → q.body ≡ bodies.Verify run_there attempt other →
    (run ≡ run_there) × (text ≡ other)
