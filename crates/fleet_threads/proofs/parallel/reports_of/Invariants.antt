use Rattle.std.proofs.Common.{take}
use Rattle.fleet_threads.specs.Slots.{ReportsOf}
use Rattle.fleet_threads.proofs.parallel.reports_of.Given as goal

abbrev pub invariant-loop-slot : goal.invariant-loop-slot
invariant-loop-slot g l = ReportsOf (take l.slot-index l.slots) l.reports.items
