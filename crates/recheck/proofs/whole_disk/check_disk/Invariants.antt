use Rattle.std.proofs.Common.{◌≡◌, ◌<◌, ◌≤◌, length, false}
use Rattle.std.specs.Prelude.{IsSome}
use Rattle.std.specs.List.{range_with_len}
use Rattle.std.specs.Option.{option_copied}
use Rattle.recheck.specs.Expected.{expected_by}
use Rattle.recheck.specs.Check.{has_ended, HasSeen}
use Rattle.recheck.specs.Disk.{held_by}
use Rattle.recheck.proofs.whole_disk.check_disk.Given as goal

abbrev pub invariant-loop-block : goal.invariant-loop-block
invariant-loop-block g l = record {
  expected : l.check.expected ≡ expected_by l.fn.key l.fn.rec (option_copied l.fn.state);
  fatal : l.check.fatal ≡ l.fn.fatal;
  next : l.check.next ≤ l.block;
  unended : has_ended l.check ≡ false;
  seen : HasSeen l.check (held_by (g.D.Disk.file l.fn.disk) l.fn.rec) (range_with_len 0 l.block);
  power : 0 < l.check.found.checked → IsSome (g.D.Disk.file l.fn.disk).power;
  file : g.D.Disk.file l.disk ≡ g.D.Disk.file l.fn.disk;
  bytes : length l.bytes.items ≡ l.fn.rec.bs;
}
