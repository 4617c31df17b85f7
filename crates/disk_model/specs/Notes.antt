-- Durable notes: bytes that outlast a cut, and what the calls leave of them.
use Rattle.std.specs.Prelude.{◌≡◌, ◌⊎◌, ◌<◌, ℕ, List, Vec, Result, Ok, Err}
use Rattle.std.specs.declared.alloc.Global.{Global}
use Rattle.fc_base.specs.declared.fault.Fault.{Fault}
use Rattle.fc_base.specs.declared.fault.Fault.TheVariants.{NoMemory, SaveFault, LoadFault}

-- A note: the bytes that are durable, and how often the device has failed.
pub record Note : Type 0 where
  pub bytes : List ℕ
  pub failures : ℕ

-- A load gives the durable bytes and changes nothing. Where the device failed, only the count of
-- failures has changed; for want of memory nothing has.
abbrev pub IsLoaded : Note → Note → Result (Vec ℕ Global) Fault → Type 0
IsLoaded old new (Ok bytes) = (new ≡ old) × (bytes.items ≡ old.bytes)
IsLoaded old new (Err LoadFault) =
    (old.failures < new.failures) × (new ≡ record old { failures = new.failures })
IsLoaded old new (Err NoMemory) = new ≡ old
IsLoaded old new (Err _) = ⊥

-- A save leaves the new bytes. Where the device failed, the durable bytes are the old or the new;
-- for want of memory they are the old.
abbrev pub IsSaved : Note → Note → List ℕ → Result (Unit {0}) Fault → Type 0
IsSaved old new bytes (Ok _) = new ≡ record old { bytes = bytes }
IsSaved old new bytes (Err SaveFault) =
    (old.failures < new.failures) × ((new.bytes ≡ old.bytes) ⊎ (new.bytes ≡ bytes))
IsSaved old new bytes (Err NoMemory) = new ≡ old
IsSaved old new bytes (Err _) = ⊥
