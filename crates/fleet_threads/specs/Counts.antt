-- How many events a worker's calls enter.
use Rattle.std.specs.Prelude.{◌≡◌, ◌≤◌, ◌+◌, ℕ, Bool, true, false, Result, Ok, Err}
use Rattle.fc_base.specs.declared.fault.Fault.{Fault}
use Rattle.fc_base.specs.declared.fault.Fault.TheVariants.{NoMemory, WrongSeat}
use Rattle.cells.specs.declared.answer.Receipt.{Receipt}
use Rattle.fleet_threads.specs.declared.asking.NextWrite.{NextWrite}
use Rattle.fleet_threads.specs.declared.asking.NextWrite.TheVariants as asks

-- A call that ends with a fault enters one event; but none for want of memory, and one at most from
-- a seat that isn't the right one.
abbrev pub FailsAt : Fault → ℕ → ℕ → Type 0
FailsAt NoMemory before now = now ≡ before
FailsAt WrongSeat before now = (before ≤ now) × (now ≤ before + 1)
FailsAt _ before now = now ≡ before + 1

-- A call of the server enters one event, but for some faults.
abbrev pub EntersOne : ℕ → ℕ → Result Receipt Fault → Type 0
EntersOne before now (Ok told) = now ≡ before + 1
EntersOne before now (Err fault) = FailsAt fault before now

-- To tell how a write ended enters one event, be it taken, or refused by a server that is off, but
-- for some faults.
abbrev pub TellsOne : ℕ → ℕ → Result Bool Fault → Type 0
TellsOne before now (Ok on) = now ≡ before + 1
TellsOne before now (Err fault) = FailsAt fault before now

-- To ask for a write enters one event, whatever the answer, but for some faults.
abbrev pub AsksOne : ℕ → ℕ → NextWrite → Type 0
AsksOne before now (asks.Refused fault) = FailsAt fault before now
AsksOne before now asked = now ≡ before + 1

-- Several ends are told by an event each, up to one that ends the telling and isn't counted among
-- them: the server is off, or it fails.
abbrev pub TellsEach : ℕ → ℕ → Result Bool Fault → Type 0
TellsEach before now (Ok true) = now ≡ before
TellsEach before now (Ok false) = now ≡ before + 1
TellsEach before now (Err fault) = FailsAt fault before now

-- The answer is a write.
abbrev pub is_write : NextWrite → Bool
is_write (asks.Write order) = true
is_write _ = false

-- Several writes are asked for by an event each, up to one that gives none; `Later` is such an
-- answer only where there was a place for a write, as else nothing was asked.
abbrev pub AsksEach : Bool → ℕ → ℕ → NextWrite → Type 0
AsksEach has_place before now (asks.Write order) = now ≡ before
AsksEach true before now asks.Later = now ≡ before + 1
AsksEach false before now asks.Later = now ≡ before
AsksEach has_place before now asks.Never = now ≡ before + 1
AsksEach has_place before now asks.Off = now ≡ before + 1
AsksEach has_place before now (asks.Refused fault) = FailsAt fault before now

-- Ends are told, and writes asked for behind them.
abbrev pub TellsAndAsks : Bool → ℕ → ℕ → Result NextWrite Fault → Type 0
TellsAndAsks has_place before now (Ok asked) = AsksEach has_place before now asked
TellsAndAsks has_place before now (Err fault) = FailsAt fault before now
