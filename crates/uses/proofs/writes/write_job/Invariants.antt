use Rattle.std.proofs.Common.{◌≡◌, ◌-◌, length}
use Rattle.uses.proofs.OneByOne.{IsSerial, written}
use Rattle.uses.proofs.writes.write_job.Given as goal

-- The writes so far were carried out one after the other.
abbrev pub invariant-loop-ticket : goal.invariant-loop-ticket
invariant-loop-ticket g l = record {
  engine : IsSerial (record { boot = l.fn.epoch; key = l.fn.key; job = l.fn.rec }) l.engine;
  file : g.D.Disk.file l.disk ≡ written l.fn.key l.fn.rec (g.D.Disk.file l.fn.disk) l.engine.kept.issued;
  bytes : length l.bytes.items ≡ l.fn.rec.bs;
}

abbrev pub decreases-loop-ticket : goal.decreases-loop-ticket
decreases-loop-ticket g l = l.fn.rec.total - l.engine.kept.issued
