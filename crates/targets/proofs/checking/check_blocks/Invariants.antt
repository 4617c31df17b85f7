use Rattle.std.proofs.Common.{◌≡◌, ◌≤◌, length, false}
use Rattle.std.specs.Option.{option_copied}
use Rattle.recheck.specs.Expected.{expected_by}
use Rattle.recheck.specs.Check.{has_ended}
use Rattle.targets.proofs.CheckLemmas.{HasRead}
use Rattle.targets.proofs.checking.check_blocks.Given as goal

abbrev pub invariant-loop-block : goal.invariant-loop-block
invariant-loop-block g l = record {
  expected : l.check.expected ≡ expected_by l.fn.key l.fn.rec (option_copied l.fn.state);
  fatal : l.check.fatal ≡ l.fn.fatal;
  next : l.check.next ≤ l.block;
  unended : has_ended l.check ≡ false;
  read : HasRead (expected_by l.fn.key l.fn.rec (option_copied l.fn.state)) l.check l.block (g.R.Read.remaining l.fn.reader) (g.R.Read.remaining l.reader);
  bytes : length l.bytes.items ≡ l.fn.rec.bs;
}
