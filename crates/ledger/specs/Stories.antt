-- A place over many runs and checks, newest first, and what is known of it.
use Rattle.std.specs.Prelude.{◌≡◌, ◌⊎◌, ℕ, false, List, [], ◌∷◌, Option, Some, None, IsTrue}
use Rattle.std.specs.List.{list_any}
use Rattle.fc_base.specs.declared.record.JobParts.{JobParts}
use Rattle.recheck.specs.Expected.{Expected}
use Rattle.recheck.specs.Faults.{last_write, writes_to, is_write}
use Rattle.ledger.specs.declared.entry.RunWrite.{RunWrite}
use Rattle.ledger.specs.Entries.{may_write, behind_run, behind_lost_run, behind_check}
use Rattle.ledger.specs.Places.{Place, empty, after_run, after_lost_run, after_check}

-- What happened at a place: a run that ended in a cut, by what a check of it goes by; such a run
-- whose state was lost, by its job; or a check.
pub data Happened : Type 0 where
  ran : Expected → Happened
  lost_run : JobParts → Happened
  checked : Happened

-- What happened, and what the blocks hold behind it.
pub record Step : Type 0 where
  pub what : Happened
  pub content : ℕ → List ℕ

-- What the blocks hold behind all steps, by what they held at first.
abbrev pub content_after : (ℕ → List ℕ) → List Step → ℕ → List ℕ
content_after first [] = first
content_after first (s ∷ older) = s.content

-- The entry of a block behind a step.
abbrev pub entry_by_step : Happened → (ℕ → List ℕ) → ℕ → List RunWrite → List RunWrite
entry_by_step checked content block entry = behind_check content block entry
entry_by_step (ran e) content block entry = behind_run e block entry
entry_by_step (lost_run job) content block entry = behind_lost_run job block entry

-- The entry of a block behind all steps: nothing was asked at first.
abbrev pub entry_after : List Step → ℕ → List RunWrite
entry_after [] block = []
entry_after (s ∷ older) block = entry_by_step s.what s.content block (entry_after older block)

-- What is known of a place behind a step.
abbrev pub place_by_step : Happened → (ℕ → List ℕ) → Place → Place
place_by_step checked content place = after_check content place
place_by_step (ran e) content place = after_run e place
place_by_step (lost_run job) content place = after_lost_run job place

-- What is known of a place of so many blocks behind all steps.
abbrev pub place_after : (bs blocks : ℕ) → List Step → Place
place_after bs blocks [] = empty bs blocks
place_after bs blocks (s ∷ older) = place_by_step s.what s.content (place_after bs blocks older)

-- A run leaves one of the writes that a block may hold: its last completed one or one in flight to
-- it; or where none has completed, what was there, or one in flight.
abbrev pub LeavesBy : Option ℕ → Expected → (before after : List ℕ) → ℕ → Type 0
LeavesBy (Some k) e before after block =
    IsTrue (list_any (is_write e block after) (k ∷ writes_to block e.in_flight))
LeavesBy None e before after block =
    (after ≡ before) ⊎ IsTrue (list_any (is_write e block after) (writes_to block e.in_flight))

-- A step loses nothing of a block. A check leaves what is there, and a lost run may leave anything
-- in a block to which its job has a write.
abbrev pub Leaves : Happened → (before after : List ℕ) → ℕ → Type 0
Leaves checked before after block = after ≡ before
Leaves (ran e) before after block = LeavesBy (last_write e block) e before after block
Leaves (lost_run job) before after block = IsTrue (may_write job block) ⊎ (after ≡ before)

-- No step has lost anything of a block.
abbrev pub NothingLost : (ℕ → List ℕ) → List Step → ℕ → Type 0
NothingLost first [] block = Unit {0}
NothingLost first (s ∷ older) block =
    Leaves s.what (content_after first older block) (s.content block) block
    × NothingLost first older block

-- A step has nothing to do with a block: it is a run with no write to it, completed or in flight,
-- or a lost run whose job has none.
abbrev pub LeavesAlone : ℕ → Happened → Type 0
LeavesAlone block checked = ⊥
LeavesAlone block (ran e) = (last_write e block ≡ None) × (writes_to block e.in_flight ≡ [])
LeavesAlone block (lost_run job) = may_write job block ≡ false
