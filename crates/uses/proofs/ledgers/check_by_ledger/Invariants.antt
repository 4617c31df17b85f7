use Rattle.std.proofs.Common.{◌≡◌, length}
use Rattle.disk_model.specs.File.{block_bytes}
use Rattle.ledger.specs.Checks.{HasSeen}
use Rattle.uses.proofs.ledgers.check_by_ledger.Given as goal

abbrev pub invariant-loop-block : goal.invariant-loop-block
invariant-loop-block g l = record {
  seen : HasSeen l.check l.fn.ledger (block_bytes (g.D.Disk.file l.fn.disk).content l.fn.ledger.bs) l.block;
  file : g.D.Disk.file l.disk ≡ g.D.Disk.file l.fn.disk;
  bytes : length l.bytes.items ≡ l.fn.ledger.bs;
}
