-- Which ledgers there can be, by the limits of jobs.
use Rattle.std.specs.Prelude.{◌≡◌, ◌≤◌, ℕ, ◌%◌, Bool, ◌&&◌, ◌==◌, nat_le, nat_lt, List, Option, IsTrue}
use Rattle.std.specs.List.{list_all}
use Rattle.fc_base.specs.declared.limits.TheConstants.{MAX_BLOCK_SIZE}
use Rattle.fc_base.specs.declared.numbers.Key.{Key}
use Rattle.fc_base.specs.declared.record.JobParts.{JobParts}
use Rattle.verify_state.specs.State.{State}
use Rattle.recheck.specs.Expected.{issued_in, expected_by}
use Rattle.ledger.specs.declared.entry.RunWrite.{RunWrite}
use Rattle.ledger.specs.Places.{Place, empty, after_run, after_lost_run, after_check}

-- A job may have blocks of this size.
abbrev pub is_block_size : ℕ → Bool
is_block_size bs = nat_le 512 bs && nat_le bs MAX_BLOCK_SIZE && (bs % 512 == 0)

-- A write is one of its job, whose blocks have this size.
abbrev pub is_within_job : ℕ → RunWrite → Bool
is_within_job bs w = nat_lt w.seq w.job.total && (w.job.bs == bs)

-- A ledger has blocks of a size that a job may have, and writes of jobs of that size.
abbrev pub is_possible : Place → Bool
is_possible place =
    is_block_size place.bs && list_all (list_all (is_within_job place.bs)) place.entries

-- What was possible stays so behind a run of a job of that size that has issued no more writes than
-- it has, behind a lost run, and behind a check; and at first a ledger is.
pub record StaysPossible : Type 0 where
  pub first : (bs blocks : ℕ) → IsTrue (is_block_size bs) → IsTrue (is_possible (empty bs blocks))
  pub run : (key : Key) (job : JobParts) (state : Option State) (place : Place)
      → issued_in job state ≤ job.total → job.bs ≡ place.bs → IsTrue (is_possible place)
      → IsTrue (is_possible (after_run (expected_by key job state) place))
  pub lost_run : (job : JobParts) (place : Place) → IsTrue (is_possible place)
      → IsTrue (is_possible (after_lost_run job place))
  pub check : (held : ℕ → List ℕ) (place : Place) → IsTrue (is_possible place)
      → IsTrue (is_possible (after_check held place))
