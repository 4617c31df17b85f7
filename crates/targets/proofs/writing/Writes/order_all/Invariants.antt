use Rattle.std.proofs.Common.{◌≡◌, ◌≤◌, ◌-◌, List}
use Rattle.engine.specs.History.{Event}
use Rattle.engine.specs.Running.{StandsFor}
use Rattle.targets.specs.Writing.{steps_left, OrdersSome}
use Rattle.targets.proofs.writing.Writes.order_all.Given as goal

-- Some writes were issued since, and their orders are written.
abbrev pub invariant-loop-ticket : goal.invariant-loop-ticket
invariant-loop-ticket g l = record {
  orders : (h : List Event) → StandsFor l.initial.self.engine h
      → OrdersSome l.head l.initial.self.engine.origin h l.self.engine (g.W.Write.contents l.initial.writer) (g.W.Write.contents l.writer);
  left : steps_left l.self.engine ≤ steps_left l.initial.self.engine;
  origin : l.self.engine.origin ≡ l.initial.self.engine.origin;
}

abbrev pub decreases-loop-ticket : goal.decreases-loop-ticket
decreases-loop-ticket g l = l.self.engine.origin.job.total - l.self.engine.kept.issued
