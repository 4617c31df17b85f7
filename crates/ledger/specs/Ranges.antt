-- The ranges that every ledger keeps.
use Rattle.std.specs.Prelude.{◌<◌, ◌≤◌, ◌^◌, List, length, IsTrue}
use Rattle.std.specs.List.{AllByRecursion}
use Rattle.fc_base.specs.declared.limits.TheConstants.{MAX_BLOCKS}
use Rattle.fc_base.specs.JobParts.{is_within_limits}
use Rattle.ledger.specs.declared.entry.RunWrite.{RunWrite}
use Rattle.ledger.specs.Places.{Place}
use Rattle.ledger.specs.Spelling.{table_of}

-- The numbers of a write have their widths, and its job is within the limits.
pub record IsRanged (w : RunWrite) : Type 0 where
  pub run : w.key.run < 2 ^ 64
  pub server : w.key.server < 2 ^ 32
  pub number : w.key.job < 2 ^ 32
  pub limits : IsTrue (is_within_limits w.job)
  pub pattern : w.job.pattern < 256
  pub seed : w.job.seed < 2 ^ 64
  pub seq : w.seq < 2 ^ 64

-- The writes of an entry have their widths, and they are no more than can be counted.
pub record IsRangedEntry (entry : List RunWrite) : Type 0 where
  pub len : length entry < 2 ^ 64
  pub writes : AllByRecursion IsRanged entry

-- The numbers of a place and of all its entries have their widths, and there are no more entries
-- than a job may have blocks.
pub record IsRangedPlace (place : Place) : Type 0 where
  pub bs : place.bs < 2 ^ 32
  pub blocks : length place.entries ≤ MAX_BLOCKS
  pub runs : length (table_of place.entries) < 2 ^ 64
  pub entries : AllByRecursion IsRangedEntry place.entries
