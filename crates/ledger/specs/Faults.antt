-- The numbers and the names of what refuses the bytes of a ledger.
use Rattle.std.specs.Prelude.{ℕ, List, codes}
use Rattle.ledger.specs.declared.fault.LedgerFault.{LedgerFault}
use Rattle.ledger.specs.declared.fault.LedgerFault.TheVariants as faults

-- The number that is printed. Want of memory has the one that it has everywhere.
abbrev pub number_of : LedgerFault → ℕ
number_of faults.Short = 100
number_of faults.Damaged = 101
number_of faults.NoLedger = 102
number_of faults.TooManyBlocks = 103
number_of faults.BadBlockSize = 104
number_of faults.BadRun = 105
number_of faults.Impossible = 106
number_of faults.OtherSpelling = 107
number_of faults.TooLong = 108
number_of faults.OtherPlace = 109
number_of faults.NoMemory = 35

-- The name that is printed.
abbrev pub name_of : LedgerFault → List ℕ
name_of faults.Short = codes "Short"
name_of faults.Damaged = codes "Damaged"
name_of faults.NoLedger = codes "NoLedger"
name_of faults.TooManyBlocks = codes "TooManyBlocks"
name_of faults.BadBlockSize = codes "BadBlockSize"
name_of faults.BadRun = codes "BadRun"
name_of faults.Impossible = codes "Impossible"
name_of faults.OtherSpelling = codes "OtherSpelling"
name_of faults.TooLong = codes "TooLong"
name_of faults.OtherPlace = codes "OtherPlace"
name_of faults.NoMemory = codes "NoMemory"
