-- What a sector says.
use Rattle.std.specs.Prelude.{◌≡◌, ℕ, ◌^◌, ◌<◌, Bool, List}
use Rattle.std.specs.Int.{w32, w64}
use Rattle.std.specs.Str.{bytes_eq}
use Rattle.verify_state.specs.Reading.{field}
use Rattle.write_order.specs.Laws.{StampFields, HasRoomInAStamp, sector_with}
use Rattle.diagnosis.specs.declared.stamp.Stamp.{Stamp}
use Rattle.diagnosis.specs.declared.stamp.Write.{Write}

-- A sector says what the stamp says whose bytes it has.
pub record Says (sector : List ℕ) (fields : StampFields) : Type 0 where
  pub room : HasRoomInAStamp fields
  pub bytes : sector ≡ sector_with fields

-- What a stamp says.
abbrev pub fields_of : Stamp → StampFields
fields_of stamp = record {
  key = stamp.write.key;
  write = stamp.write.seq;
  block = stamp.write.block;
  sector = stamp.sector;
}

-- A write has room: each of its numbers fits its width, and the block is one of four bytes.
pub record HasRoom (write : Write) : Type 0 where
  pub run : write.key.run < 2 ^ 64
  pub server : write.key.server < 2 ^ 32
  pub job : write.key.job < 2 ^ 32
  pub seq : write.seq < 2 ^ 64
  pub block : write.block < 2 ^ 32

-- The numbers that stand in a sector where those of a stamp do. Of the block's eight bytes the
-- last four count: in a stamp of a job's block the others are zeros.
abbrev pub stamp_in : List ℕ → Stamp
stamp_in sector = record {
  write = record {
    key = record {
      run = field w64 0 sector;
      server = field w32 8 sector;
      job = field w32 12 sector;
    };
    seq = field w64 16 sector;
    block = field w32 28 sector;
  };
  sector = field w32 32 sector;
}

-- A sector is stamped where its bytes are those of the stamp with the numbers that stand in it.
unfoldable pub is_stamped : List ℕ → Bool
is_stamped sector = bytes_eq sector (sector_with (fields_of (stamp_in sector)))
