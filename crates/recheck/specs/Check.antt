-- A check under way.
use Rattle.std.specs.Prelude.{◌≡◌, ℕ, ◌+◌, Bool, ◌&&◌, nat_lt, List, [], ◌∷◌, ◌++◌, take, Option, Some, None, Result, Ok, Err}
use Rattle.fc_base.specs.declared.limits.TheConstants.{MAX_LISTED}
use Rattle.fc_base.specs.declared.numbers.Key.{Key}
use Rattle.fc_base.specs.declared.record.JobParts.{JobParts}
use Rattle.fc_base.specs.declared.fault.Fault.{Fault}
use Rattle.fc_base.specs.declared.fault.Fault.TheVariants as faults
use Rattle.verify_state.specs.State.{State}
use Rattle.verify_state.specs.Misfit.{Fits}
use Rattle.recheck.specs.declared.verdict.Verdict.{Verdict}
use Rattle.recheck.specs.declared.verdict.Verdict.TheVariants as verdicts
use Rattle.recheck.specs.Expected.{Expected, expected_by}
use Rattle.recheck.specs.Report.{Tally, tally, looked_at}

-- What the blocks are checked against, whether a fault is fatal, the first block that may come
-- next, and the tally of the blocks that came.
pub record Check : Type 0 where
  pub expected : Expected
  pub fatal : Bool
  pub next : ℕ
  pub found : Tally

-- No block came yet.
abbrev pub nothing : Tally
nothing = record { checked = 0; faults = 0; first = [] }

-- A check at its start.
abbrev pub start : Expected → Bool → Check
start e fatal = record { expected = e; fatal = fatal; next = 0; found = nothing }

-- The tally with one more block, where this was found.
abbrev pub with_verdict : Tally → ℕ → Verdict → Tally
with_verdict found block verdicts.Skipped = found
with_verdict found block verdicts.Good = record found { checked = found.checked + 1 }
with_verdict found block verdicts.Fault = record {
  checked = found.checked + 1;
  faults = found.faults + 1;
  first = take MAX_LISTED (found.first ++ block ∷ []);
}

-- The check once this was found at a block.
abbrev pub with_block_checked : Check → ℕ → Verdict → Check
with_block_checked check block seen =
    record check { next = block + 1; found = with_verdict check.found block seen }

-- A check has ended where a fault is fatal and one was found.
abbrev pub has_ended : Check → Bool
has_ended check = check.fatal && nat_lt 0 check.found.faults

-- These blocks of this content came to the check, and none behind the first fault where a fault is
-- fatal.
pub record HasSeen (check : Check) (held : ℕ → List ℕ) (blocks : List ℕ) : Type 0 where
  pub uncut : looked_at check.fatal check.expected held blocks ≡ blocks
  pub found : check.found ≡ tally check.expected held blocks

-- A state has to fit the job; without one nothing has to.
abbrev pub FitsIfAny : Option State → Key → JobParts → Result (Unit {0}) Fault → Type 0
FitsIfAny None key job (Ok _) = Unit {0}
FitsIfAny None key job (Err _) = ⊥
FitsIfAny (Some state) key job answer = Fits state key job answer

-- A check starts where the state fits, and is refused where it doesn't, or for want of memory.
abbrev pub Starts : Result Check Fault → Key → JobParts → Option State → Bool → Type 0
Starts (Ok check) key job state fatal =
    FitsIfAny state key job (Ok tt) × (check ≡ start (expected_by key job state) fatal)
Starts (Err faults.OtherKey) key job state fatal = FitsIfAny state key job (Err faults.OtherKey)
Starts (Err faults.OtherJob) key job state fatal = FitsIfAny state key job (Err faults.OtherJob)
Starts (Err faults.OtherPlace) key job state fatal = FitsIfAny state key job (Err faults.OtherPlace)
Starts (Err faults.NoMemory) key job state fatal = Unit {0}
Starts (Err _) key job state fatal = ⊥
