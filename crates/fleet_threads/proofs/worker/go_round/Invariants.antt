use Rattle.std.specs.Prelude.{◌&&◌, nat_lt}
use Rattle.fleet_threads.specs.Turns.{is_over, WorkedIf}
use Rattle.fleet_threads.proofs.worker.go_round.Given as goal

abbrev pub invariant-loop-step : goal.invariant-loop-step
invariant-loop-step g l = WorkedIf (is_over l.round && nat_lt 0 l.step) l.fn.seat l.seat
