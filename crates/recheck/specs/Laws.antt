-- What a check finds, in the words of the writes of a job and of what its blocks hold.
use Rattle.std.specs.Prelude.{◌≡◌, ◌⊎◌, ◌↔◌, ◌<◌, ◌≤◌, ℕ, Bool, false, List, Option, Some, IsTrue}
use Rattle.std.specs.List.{range_with_len}
use Rattle.fc_base.specs.declared.numbers.Key.{Key}
use Rattle.fc_base.specs.declared.record.JobParts.{JobParts}
use Rattle.fc_base.specs.declared.report.ReportEnd.TheVariants.{AtFault}
use Rattle.write_order.specs.Blocks.{block_of}
use Rattle.write_order.specs.Stamps.{written_bytes}
use Rattle.verify_state.specs.State.{State, IsSame}
use Rattle.recheck.specs.Expected.{Expected, issued_in, counts, expected_by}
use Rattle.recheck.specs.Faults.{is_fault}
use Rattle.recheck.specs.Report.{report}

-- Write k has completed, and went to the block.
pub record IsCompletedTo (job : JobParts) (state : Option State) (block k : ℕ) : Type 0 where
  pub issued : k < issued_in job state
  pub counted : IsTrue (counts state k)
  pub goes : block_of job k ≡ block

-- Write k is the last that has completed to the block.
pub record IsLastCompleted (job : JobParts) (state : Option State) (block k : ℕ) : Type 0 where
  pub completed : IsCompletedTo job state block k
  pub last : (j : ℕ) → IsCompletedTo job state block j → j ≤ k

-- Write k was issued to the block, and has not completed.
pub record IsInFlightTo (job : JobParts) (state : Option State) (block k : ℕ) : Type 0 where
  pub issued : k < issued_in job state
  pub uncounted : counts state k ≡ false
  pub goes : block_of job k ≡ block

-- The block holds what write k puts there.
abbrev pub Holds : Key → JobParts → (ℕ → List ℕ) → ℕ → ℕ → Type 0
Holds key job held block k = held block ≡ written_bytes key job k block

-- The block has lost its writes: some write to it has completed, and it holds neither what the last
-- of these put there, nor what any write in flight to it does.
pub record HasLost (key : Key) (job : JobParts) (state : Option State) (held : ℕ → List ℕ)
    (block : ℕ) : Type 0 where
  pub write : ℕ
  pub last : IsLastCompleted job state block write
  pub gone : Holds key job held block write → ⊥
  pub in_flight : (k : ℕ) → IsInFlightTo job state block k → Holds key job held block k → ⊥

-- The faults are the blocks that have lost their writes.
abbrev pub FaultsAreLosses : Type 0
FaultsAreLosses =
    (key : Key) (job : JobParts) (state : Option State) (held : ℕ → List ℕ) (block : ℕ) →
    block < job.blocks →
    IsTrue (is_fault (expected_by key job state) held block) ↔ HasLost key job state held block

-- A block that holds its last completed write, or one in flight to it, is no fault.
abbrev pub HoldersAreNoFaults : Type 0
HoldersAreNoFaults =
    (key : Key) (job : JobParts) (state : Option State) (held : ℕ → List ℕ) (block : ℕ) →
    block < job.blocks →
    (k : ℕ) → IsLastCompleted job state block k ⊎ IsInFlightTo job state block k →
    Holds key job held block k →
    is_fault (expected_by key job state) held block ≡ false

-- Checks by two states that are the same tell the same of the same blocks.
abbrev pub SameStatesCheckAlike : Type 0
SameStatesCheckAlike =
    (a b : State) → IsSame a b → (fatal : Bool) (key : Key) (job : JobParts) (held : ℕ → List ℕ)
    (blocks : List ℕ) →
    report fatal (expected_by key job (Some a)) held blocks
    ≡ report fatal (expected_by key job (Some b)) held blocks

-- A check that ends at a fault tells of the blocks up to it what it tells of all.
abbrev pub FaultsEndChecks : Type 0
FaultsEndChecks =
    (fatal : Bool) (e : Expected) (held : ℕ → List ℕ) (n m : ℕ) → n ≤ m →
    (report fatal e held (range_with_len 0 n)).end ≡ AtFault →
    report fatal e held (range_with_len 0 m) ≡ report fatal e held (range_with_len 0 n)
