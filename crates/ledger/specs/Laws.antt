-- What holds of entries, over any list of runs and checks.
use Rattle.std.specs.Prelude.{◌≡◌, ◌<◌, ℕ, true, false, List, [], ◌∷◌, ◌++◌, None, IsTrue}
use Rattle.std.specs.List.{list_any, range_with_len, AllByRecursion}
use Rattle.recheck.specs.Expected.{Expected}
use Rattle.recheck.specs.Faults as checks
use Rattle.recheck.specs.Report as reports
use Rattle.recheck.specs.Faults.{last_write, writes_to}
use Rattle.ledger.specs.declared.entry.RunWrite.{RunWrite}
use Rattle.ledger.specs.Entries.{behind_run, behind_check, is_held, is_fault}
use Rattle.ledger.specs.Places.{after_run, empty, entry_of}
use Rattle.ledger.specs.Reports.{report}
use Rattle.ledger.specs.Stories.{Step, checked, content_after, entry_after, place_after, NothingLost, LeavesAlone}

-- One run over an empty ledger is the check of that run.
abbrev pub OneRunIsTheCheck : Type 0
OneRunIsTheCheck =
    (e : Expected) (held : ℕ → List ℕ) (block : ℕ) →
    is_fault held block (behind_run e block []) ≡ checks.is_fault e held block

-- A block that holds a write of its entry is no fault.
abbrev pub HoldersAreNoFaults : Type 0
HoldersAreNoFaults =
    (held : ℕ → List ℕ) (block : ℕ) (entry : List RunWrite) →
    IsTrue (list_any (is_held block (held block)) entry) → is_fault held block entry ≡ false

-- Behind a check a block that still holds what it held then is no fault.
abbrev pub WhatStaysIsNoFault : Type 0
WhatStaysIsNoFault =
    (held : ℕ → List ℕ) (block : ℕ) (entry : List RunWrite) →
    is_fault held block (behind_check held block entry) ≡ false

-- Where no step has lost anything of a block, it is no fault, over any list of runs, lost runs and
-- checks.
abbrev pub NothingIsTold : Type 0
NothingIsTold =
    (first : ℕ → List ℕ) (steps : List Step) (block : ℕ) → NothingLost first steps block →
    is_fault (content_after first steps) block (entry_after steps block) ≡ false

-- Where a check has found a write of its entry in a block, a later run has no write to it,
-- completed or in flight, and the block then holds other bytes, it is a fault.
abbrev pub LossAtRestIsTold : Type 0
LossAtRestIsTold =
    (seen later : ℕ → List ℕ) (e : Expected) (entry : List RunWrite) (block : ℕ) →
    IsTrue (list_any (is_held block (seen block)) entry)
    → last_write e block ≡ None → writes_to block e.in_flight ≡ []
    → (later block ≡ seen block → ⊥)
    → is_fault later block (behind_run e block (behind_check seen block entry)) ≡ true

-- A check that found this in the blocks.
abbrev pub check_of : (ℕ → List ℕ) → Step
check_of seen = record { what = checked; content = seen }

-- A loss at rest is a fault however many steps came behind the check that found a write of the
-- entry, none of which had to do with the block.
abbrev pub OldLossIsTold : Type 0
OldLossIsTold =
    (older newer : List Step) (seen later : ℕ → List ℕ) (block : ℕ) →
    IsTrue (list_any (is_held block (seen block)) (entry_after older block))
    → AllByRecursion (λ s. LeavesAlone block s.what) newer
    → (later block ≡ seen block → ⊥)
    → is_fault later block (entry_after (newer ++ check_of seen ∷ older) block) ≡ true

-- What is known of a place behind all steps is the entry of each block behind them.
abbrev pub PlacesHaveTheirEntries : Type 0
PlacesHaveTheirEntries =
    (bs blocks : ℕ) (steps : List Step) (block : ℕ) → block < blocks →
    entry_of (place_after bs blocks steps) block ≡ entry_after steps block

-- Where no step has lost anything, no report tells a fault.
abbrev pub NoReportTellsAFault : Type 0
NoReportTellsAFault =
    (first : ℕ → List ℕ) (bs blocks : ℕ) (steps : List Step)
    → ((block : ℕ) → block < blocks → NothingLost first steps block)
    → (report (place_after bs blocks steps) (content_after first steps)).faults ≡ 0

-- The report of one run over a place of which nothing was asked is that of the check of that run.
abbrev pub OneRunReports : Type 0
OneRunReports =
    (e : Expected) (held : ℕ → List ℕ) (bs blocks : ℕ) →
    report (after_run e (empty bs blocks)) held
    ≡ reports.report false e held (range_with_len 0 blocks)
