-- What is read of bytes that spell a ledger.
use Rattle.std.specs.Prelude.{◌≡◌, ℕ, ◌<◌, ◌^◌, List, length, Result, Ok, Err}
use Rattle.std.specs.List.{AllByRecursion, flat_map}
use Rattle.ledger.specs.declared.entry.RunWrite.{RunWrite}
use Rattle.ledger.specs.declared.fault.LedgerFault.{LedgerFault}
use Rattle.ledger.specs.declared.fault.LedgerFault.TheVariants.{NoMemory}
use Rattle.ledger.specs.Places.{Place}
use Rattle.ledger.specs.Ranges.{IsRanged}
use Rattle.ledger.specs.Spelling.{run_numbers, index_in}

-- Of bytes that spell something, that is read, or memory has run out.
abbrev pub Reads : {X : Type 0} → Result X LedgerFault → X → Type 0
Reads (Ok read) it = read ≡ it
Reads (Err fault) it = fault ≡ NoMemory

-- Of bytes that spell a ledger, that is read, or memory has run out.
abbrev pub IsRead : Result Place LedgerFault → Place → Type 0
IsRead result place = Reads result place

-- ---- what the steps go by

-- Rows of twelve numbers, one behind the other.
pub record IsRows (rows : List ℕ) (table : List (List ℕ)) : Type 0 where
  pub each : AllByRecursion (λ row. length row ≡ 12) table
  pub rows_are : rows ≡ flat_map (λ row. row) table

-- A write that can be read: it has its widths, and its run is in the table.
pub record IsReadable (table : List (List ℕ)) (w : RunWrite) : Type 0 where
  pub ranged : IsRanged w
  pub there : index_in (run_numbers w) table < length table

-- The writes of an entry can be read, and they are no more than can be counted.
pub record IsReadableEntry (table : List (List ℕ)) (entry : List RunWrite) : Type 0 where
  pub len : length entry < 2 ^ 64
  pub writes : AllByRecursion (IsReadable table) entry
