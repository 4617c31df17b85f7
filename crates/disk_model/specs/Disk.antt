-- What the calls of a disk leave of its file, by cases on what they answer.
use Rattle.std.specs.Prelude.{◌≡◌, ◌≢◌, ◌<◌, ℕ, List, length, Some, IsSome, IsNone, Result, Ok, Err}
use Rattle.fc_base.specs.declared.fault.Fault.{Fault}
use Rattle.fc_base.specs.declared.fault.Fault.TheVariants.{NoMemory, Off, WriteFault, ReadFault}
use Rattle.disk_model.specs.File.{File, with_block, IsSameOutside, HasWholeSectors, block_bytes}

-- A write writes its block, in the present epoch. It is refused, and nothing changes, where that
-- isn't its epoch, or for want of memory. Where the device failed, that block holds anything, in
-- sectors of 512 bytes as before.
abbrev pub IsWritten : File → File → ℕ → ℕ → List ℕ → Result (Unit {0}) Fault → Type 0
IsWritten old new epoch block bytes (Ok _) =
    (old.power ≡ Some epoch) × (new ≡ with_block block bytes old)
IsWritten old new epoch block bytes (Err Off) = (old.power ≢ Some epoch) × (new ≡ old)
IsWritten old new epoch block bytes (Err NoMemory) = new ≡ old
IsWritten old new epoch block bytes (Err WriteFault) =
    (old.power ≡ Some epoch) × (new.power ≡ old.power) × (old.failures < new.failures)
    × IsSameOutside old new block (length bytes)
    × (HasWholeSectors old → HasWholeSectors new)
IsWritten old new epoch block bytes (Err _) = ⊥

-- A read gives the bytes of its block, in any epoch, and changes nothing. It is refused where the
-- power is off. Where the device failed, only the count of failures has changed.
abbrev pub IsRead : File → File → ℕ → List ℕ → Result (Unit {0}) Fault → Type 0
IsRead old new block bytes (Ok _) =
    IsSome old.power × (new ≡ old) × (bytes ≡ block_bytes old.content (length bytes) block)
IsRead old new block bytes (Err Off) = IsNone old.power × (new ≡ old)
IsRead old new block bytes (Err ReadFault) =
    IsSome old.power × (old.failures < new.failures)
    × (new ≡ record old { failures = new.failures })
IsRead old new block bytes (Err _) = ⊥
