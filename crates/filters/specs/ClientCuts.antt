-- What is left of the client where its filter is cut at any byte of its answers, and how the next
-- life stands on it.
use Rattle.std.specs.Prelude.{◌≡◌, ℕ, Bool, List, [], ◌∷◌, ◌++◌, IsTrue}
use Rattle.messages.specs.Ranges.{is_generation}
use Rattle.client_core.specs.History.{Opening}
use Rattle.client_core.specs.Note.{Says}
use Rattle.client_core.specs.Hearing.{FrameEntry, Restart, Cut}
use Rattle.filters.specs.declared.beginning.Beginning.TheVariants.{Renewed}
use Rattle.filters.specs.ClientSteps.{noted}
use Rattle.filters.specs.ClientLives.{ClientAt, ClientTakes, BeginsBehind, MayBegin, restarts, starts, opening_bytes}
use Rattle.filters.specs.Lives.{RecordParts, Lives}
use Rattle.filters.specs.Cuts.{CutsBehind}
use Rattle.filters.specs.NodeCuts.{CutsAnswer}

-- A client is cut so, and the next life over the note that it leaves, with a mirror or without one,
-- may begin, and begins behind its list and the cut.
pub record GoesOnFrom (mirror : Bool) (opening : Opening) (first : ClientAt)
    (records : List RecordParts) (front : List ℕ) : Type 0 where
  pub left : ClientAt
  pub cuts : CutsBehind (ClientTakes opening)
      (CutsAnswer (λ (at : ClientAt). at.note)) first records front left
  pub may : MayBegin (restarts mirror) left.note
  pub next : BeginsBehind (restarts mirror) opening.servers left.note opening
      (record { list = Restart mirror ∷ (Cut ∷ left.list); note = left.note })

-- Wherever the answers of a life are cut, the next one goes on from there: with a mirror, where the
-- note of this one wasn't empty.
abbrev pub LivesGoOn : Type 0
LivesGoOn =
    (mirror : Bool) (opening : Opening) (first now : ClientAt) (records : List RecordParts)
    (front back : List ℕ) →
    MayBegin (restarts mirror) first.note → Says first.note (noted opening first.list)
    → Lives (ClientTakes opening) first records now (front ++ back)
    → GoesOnFrom mirror opening first records front

-- A client that begins anew is cut in the answer to its note. Where that has the save, it has begun;
-- else its note is still lost, and it is as if it had not.
pub record IsRenewedFrom (g : ℕ) (opening : Opening) (past : List FrameEntry) (front : List ℕ)
    : Type 0 where
  pub left : ClientAt
  pub cuts : CutsAnswer (λ (at : ClientAt). at.note) (record { list = past; note = [] })
      (starts (Renewed g) past []) front left
  pub says : Says left.note (noted opening left.list)

-- Wherever the answer to the note of a client is cut that begins anew.
abbrev pub RenewalsGoOn : Type 0
RenewalsGoOn =
    (g : ℕ) (opening : Opening) (past : List FrameEntry) (front back : List ℕ) →
    IsTrue (is_generation g) → Says [] (noted opening past)
    → opening_bytes (Renewed g) ≡ front ++ back → IsRenewedFrom g opening past front
