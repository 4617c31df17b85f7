-- Two runs of one job, of which one was told less, a block of two sectors that is torn, and two
-- tiles of a tour: instances of the laws of `targets`.
use Rattle.std.specs.Prelude.{◌≡◌, ◌<◌, ℕ, true, false, List, [], ◌∷◌, ◌++◌, length, take, drop, Some, IsTrue}
use Rattle.fc_base.specs.declared.record.JobParts.{JobParts}
use Rattle.fc_base.specs.Counted.{has}
use Rattle.fc_base.specs.JobParts.{is_within_limits}
use Rattle.write_order.specs.Blocks.{block_of}
use Rattle.write_order.specs.Stamps.{written_bytes}
use Rattle.engine.specs.History.{Event, issued, open_writes}
use Rattle.engine.specs.Taken.{state_after}
use Rattle.recheck.specs.Expected.{Expected, expected_by}
use Rattle.recheck.specs.Faults.{is_expected}
use Rattle.targets.specs.declared.notice.Notice.{Notice}
use Rattle.targets.specs.declared.notice.Notice.TheVariants.{Done}
use Rattle.targets.specs.Examples.{three_writes, one_told, two_told, holds_write, two_tiles, two_tiles_written}
use Rattle.targets.specs.Fronts.{IsBehind}
use Rattle.targets.specs.Losses.{Survives, AllSurvive, is_fault_after}
use Rattle.targets.specs.Notices.{told_bytes, told_done, told_failed, notice_bytes}
use Rattle.targets.specs.Orders.{orders}
use Rattle.targets.specs.Runs.{IsHistory}
use Rattle.targets.specs.TourLaws.{IsRun}
use Rattle.targets.specs.TourWords.{open_tiles, run_of, told_of}
use Rattle.targets.specs.Tours.{IsTour}
use Rattle.targets.specs.Units.{has_sound_units}
use Rattle.uses.specs.OneJob.{key, job, state}

-- Of three writes to one block, write 0 was told as done, and then write 1.
abbrev pub both : List Notice
both = Done 1 ∷ Done 0 ∷ []

-- One run was told of both, and the other one of write 0 alone: its notices are a front of those
-- of the run ahead, which has issued and counted more. Where neither was told of write 1, that is
-- open.
pub record OneIsAhead : Type 0 where
  pub limits : IsTrue (is_within_limits three_writes.job)
  pub first_history : IsHistory three_writes (Done 0 ∷ []) one_told
  pub history : IsHistory three_writes both two_told
  pub one_history : (h : List Event) → IsHistory three_writes both h → two_told ≡ h
  pub front : told_bytes both ≡ told_bytes (Done 0 ∷ []) ++ notice_bytes (Done 1)
  pub behind : IsBehind three_writes (Done 0 ∷ []) both one_told two_told
  pub goes_on : (newer : List Event) × (two_told ≡ newer ++ one_told)
  pub orders_go_on : (more : List ℕ)
      × (orders three_writes.key three_writes.job two_told
      ≡ orders three_writes.key three_writes.job one_told ++ more)
  pub ordered : 1 < issued one_told
  pub is_issued : 1 < (state_after three_writes two_told).issued
  pub counted : has (state_after three_writes two_told).counted 1 ≡ has (told_done both) 1
  pub at_itself : IsBehind three_writes (Done 0 ∷ []) (Done 0 ∷ []) one_told one_told
  pub untold : has (told_done (Done 0 ∷ [])) 1 ≡ false
  pub not_failed : has (told_failed (Done 0 ∷ [])) 1 ≡ false
  pub is_open : has (open_writes one_told) 1 ≡ true

-- One run was told of both, and the other one of write 0 alone, which has write 1 in flight. That
-- is what the block holds: it is there for write 0, too, and by the state of the run ahead the
-- block is no fault.
pub record SurvivorsAreThere : Type 0 where
  pub behind : IsBehind three_writes (Done 0 ∷ []) both one_told two_told
  pub is_open : has (open_writes one_told) 1 ≡ true
  pub survive : AllSurvive three_writes both one_told (holds_write 1)
  pub no_fault : (block : ℕ) → block < three_writes.job.blocks
      → is_fault_after three_writes two_told (holds_write 1) block ≡ false

-- Where the block holds write 0, write 1 doesn't survive, which was told as done: that is a fault.
pub record LossIsAFault : Type 0 where
  pub limits : IsTrue (is_within_limits three_writes.job)
  pub history : IsHistory three_writes both two_told
  pub told : IsTrue (has (told_done both) 1)
  pub gone : Survives three_writes two_told (holds_write 0) 1 → ⊥
  pub fault :
      IsTrue (is_fault_after three_writes two_told (holds_write 0) (block_of three_writes.job 1))

-- The job with blocks of two sectors.
abbrev pub wide_job : JobParts
wide_job = record job { bs = 1024 }

-- What its blocks are checked against, by the state: block 1 is to hold write 1 or 3.
abbrev pub wide : Expected
wide = expected_by key wide_job (Some state)

-- What a write of that job puts into block 1.
abbrev pub written : ℕ → List ℕ
written k = written_bytes key wide_job k 1

-- The first sector of write 3, and behind it that of write 1: so a torn write leaves the block.
abbrev pub torn : List ℕ
torn = take 512 (written 3) ++ drop 512 (written 1)

-- A block that holds the write in flight is sound, and so is each sector of it.
pub record SoundBlockHasSoundUnits : Type 0 where
  pub sound : IsTrue (is_expected wide 1 (written 3))
  pub units : IsTrue (has_sound_units wide 512 1 (written 3))

-- A torn block is sound sector by sector. With the block as its unit it isn't, as by the check.
pub record BlockIsItsUnit : Type 0 where
  pub limits : IsTrue (is_within_limits wide_job)
  pub length_is : length torn ≡ wide_job.bs
  pub whole : has_sound_units wide wide_job.bs 1 torn ≡ is_expected wide 1 torn
  pub unsound : is_expected wide 1 torn ≡ false
  pub sectors : has_sound_units wide 512 1 torn ≡ true

-- Of two tiles whose words interleave tile 0, run 1, was told of write 0 and taken, and tile 1 is open
-- still: tile 0 is a run of its own.
pub record TileIsARun : Type 0 where
  pub tour : IsTour 0 three_writes.job two_tiles two_tiles_written
  pub run_is : run_of two_tiles 0 ≡ Some 1
  pub told : told_of two_tiles 0 ≡ Done 0 ∷ []
  pub closed : has (open_tiles two_tiles) 0 ≡ false
  pub is_open : has (open_tiles two_tiles) 1 ≡ true
  pub is_run : IsRun 0 three_writes.job two_tiles two_tiles_written 0 1
