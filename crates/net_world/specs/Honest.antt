-- An honest disk: what is told as done is in the file, and no sector changes by itself.
use Rattle.std.specs.Prelude.{◌≡◌, ℕ, ◌<◌, ◌/◌, true, false, List, [], ◌∷◌, Some, slice_get}
use Rattle.fc_base.specs.Counted.{has}
use Rattle.fc_base.specs.declared.numbers.Key.{Key}
use Rattle.fc_base.specs.declared.record.JobParts.{JobParts}
use Rattle.job_file.specs.declared.job.Job.{Job}
use Rattle.write_order.specs.Blocks.{block_of}
use Rattle.write_order.specs.Stamps.{bytes_of}
use Rattle.verify_state.specs.State.{State}
use Rattle.disk_model.specs.File.{block_bytes, has_bit}
use Rattle.engine.specs.Running.{Origin}
use Rattle.recheck.specs.Expected.{expected_by}
use Rattle.recheck.specs.Faults.{is_fault}
use Rattle.server_core.specs.declared.input.Input.TheVariants.{WriteDone}
use Rattle.server_core.specs.declared.input.WriteEnd.TheVariants.{Done}
use Rattle.server_core.specs.History as server
use Rattle.server_core.specs.Check.{Check, With, check, progress_after}
use Rattle.messages.specs.Hearing.{Happens}
use Rattle.net_world.specs.Setup.{Setup}
use Rattle.net_world.specs.Trace.{opening_of, of_server}
use Rattle.net_world.specs.Frames.{FrameStep, OfServer}
use Rattle.net_world.specs.Changes.{Change, Met, Landed, Rotted, trace}
use Rattle.net_world.specs.Writes.{open_at}
use Rattle.net_world.specs.Contents.{is_file, content}
use Rattle.net_world.specs.Checks.{key_of}

-- The block of write k holds all its bytes.
abbrev pub HoldsWrite : (ℕ → List ℕ) → Key → JobParts → ℕ → Type 0
HoldsWrite held key job k = block_bytes held job.bs (block_of job k) ≡ bytes_of key job k

-- A write that is told as done by the worker of job j at server s is in its file.
abbrev pub IsInFile : Setup → ℕ → ℕ → List Change → FrameStep → Type 0
IsInFile w s j past (OfServer r (Happens (server.Met (WriteDone ticket Done) left))) =
    r ≡ s → ticket.key.job ≡ j →
    (origin : Origin) → open_at (trace w past) s j ticket.seq ≡ Some origin →
    HoldsWrite (content w past s j) origin.key origin.job ticket.seq
IsInFile w s j past _ = Unit {0}

-- The disk was honest that has file j of server s: no sector of the file has rotted, and each write
-- that was told as done was in it by then. Nothing is asked of other files.
abbrev pub AreHonest : Setup → ℕ → ℕ → List Change → Type 0
AreHonest w s j [] = Unit {0}
AreHonest w s j (Met step ∷ past) = AreHonest w s j past × IsInFile w s j past step
AreHonest w s j (Landed r i k mask ∷ past) = AreHonest w s j past
AreHonest w s j (Rotted r i sector bytes ∷ past) =
    AreHonest w s j past × (is_file r i s j ≡ false)

-- The mask has each sector of the job's blocks.
abbrev pub HasAllSectors : ℕ → JobParts → Type 0
HasAllSectors mask job = (i : ℕ) → i < job.bs / 512 → has_bit mask i ≡ true

-- Writes were whole: each that landed in this file has landed with all its sectors.
abbrev pub AreWhole : Setup → ℕ → ℕ → List Change → Type 0
AreWhole w s j [] = Unit {0}
AreWhole w s j (Met step ∷ past) = AreWhole w s j past
AreWhole w s j (Landed r i k mask ∷ past) =
    AreWhole w s j past
    × (is_file r i s j ≡ true
    → (origin : Origin) → open_at (trace w past) r i k ≡ Some origin
    → HasAllSectors mask origin.job)
AreWhole w s j (Rotted r i sector bytes ∷ past) = AreWhole w s j past

-- A write to this block was in flight when the state was taken.
pub record WasInFlight (state : State) (block : ℕ) : Type 0 where
  pub write : ℕ
  pub issued : write < state.issued
  pub undone : has state.counted write ≡ false
  pub there : block_of state.job write ≡ block

-- Job j of the open check at server s is checked with this state.
pub record IsCheckedWith (w : Setup) (past : List Change) (s j : ℕ) (c : Check) (job : Job)
    (state : State) : Type 0 where
  pub is_open : check (opening_of s) (of_server s (trace w past)) ≡ Some c
  pub has_job : slice_get c.jobs j ≡ Some job
  pub made : progress_after c j job c.since ≡ With state

-- The block is faulty, as job j of this check sees it with this state.
abbrev pub IsFaulty : Setup → List Change → ℕ → ℕ → Check → Job → State → ℕ → Type 0
IsFaulty w past s j c job state block =
    is_fault (expected_by (key_of c j) job.rec (Some state))
    (λ b. block_bytes (content w past s j) job.rec.bs b) block ≡ true
