use Rattle.std.specs.Prelude.{◌≡◌, ◌≤◌, ◌+◌, length}
use Rattle.fleet_threads.proofs.write_queue.WriteQueue.carry_out.Given as goal

abbrev pub invariant-loop-at : goal.invariant-loop-at
invariant-loop-at g l = record {
  kept : l.kept ≤ l.at;
  given : length l.self.given.items ≡ length l.fn.self.given.items;
  ended : length l.self.ended.items + l.kept ≡ length l.fn.self.ended.items + l.at;
}
