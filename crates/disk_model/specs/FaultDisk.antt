-- A disk of which one call fails.
use Rattle.std.specs.Prelude.{ℕ, Option}
use Rattle.std.specs.Borrow.{Lends, MutBor, Fml}
use Rattle.disk_model.specs.File.{File}
use Rattle.disk_model.specs.MemDisk.{file_of}
use Rattle.disk_model.specs.Countdown.{left_of, failures_of}
use Rattle.disk_model.specs.declared.mem_disk.MemDisk.{MemDisk}
use Rattle.disk_model.specs.declared.fault_disk.FaultDisk.{FaultDisk}
use Rattle.disk_model.specs.contracts.fault_disk.FaultDisk.{the_row as fault_row}
use Rattle.disk_model.specs.contracts.mem_disk.MemDisk.{the_row as mem_row}

-- The file is that of the disk in memory; the failing call is the one failure.
abbrev pub faulty_file : FaultDisk → File
faulty_file disk = record (file_of disk.disk) { failures = failures_of disk.countdown }

-- How many reads and writes come before the call that fails, or none once that call was made.
abbrev pub calls_left : FaultDisk → Option ℕ
calls_left disk = left_of disk.countdown

-- The disk in memory.
abbrev pub disk_of : FaultDisk → MemDisk
disk_of disk = disk.disk

-- This disk with another disk in memory: which call fails stays as it was.
abbrev pub with_disk : FaultDisk → MemDisk → FaultDisk
with_disk disk mem = record disk { disk = mem }

-- What is left behind the loan is the disk in memory from then on.
abbrev pub LendsDisk : MutBor FaultDisk → MutBor MemDisk → Fml
LendsDisk disk lent = Lends fault_row mem_row disk lent (with_disk disk.now)
