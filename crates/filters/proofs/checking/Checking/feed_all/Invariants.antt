use Rattle.std.proofs.Common.{◌≡◌, ◌+◌, ℕ}
use Rattle.filters.specs.UnderWay.{UnderWay, with_blocks}
use Rattle.filters.specs.CheckRuns.{HasCome, IsKept}
use Rattle.filters.proofs.checking.Checking.feed_all.Given as goal

-- So many blocks were fed.
abbrev pub invariant-loop-fed : goal.invariant-loop-fed
invariant-loop-fed l = record {
  next : l.now.next ≡ l.fn.self.next + l.fed;
  count : l.now.count + l.fed ≡ l.fn.self.count;
  size : l.now.size ≡ l.fn.self.size;
  come : (j : ℕ) (u : UnderWay) → IsKept j l.fn.self u → HasCome j l.now (with_blocks u l.fed l.bytes);
}
