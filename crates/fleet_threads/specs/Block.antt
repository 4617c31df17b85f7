-- What carrying out a write does to its file.
use Rattle.std.specs.Prelude.{Ok}
use Rattle.fc_base.specs.declared.record.JobParts.{JobParts}
use Rattle.engine.specs.declared.issue.Ticket.{Ticket}
use Rattle.disk_model.specs.File.{File}
use Rattle.disk_model.specs.Disk.{IsWritten}
use Rattle.write_order.specs.Stamps.{written_bytes}
use Rattle.server_core.specs.declared.input.WriteEnd.{WriteEnd}
use Rattle.server_core.specs.declared.input.WriteEnd.TheVariants.{Done, Failed}

-- A write has ended so: it is done only where its block was written, in the epoch of the boot that
-- issued it, with the bytes of that write.
abbrev pub Lands : File → File → Ticket → JobParts → WriteEnd → Type 0
Lands old new ticket rec Done =
    IsWritten old new ticket.boot ticket.block
    (written_bytes ticket.key rec ticket.seq ticket.block) (Ok tt)
Lands old new ticket rec Failed = Unit {0}
