use Rattle.std.proofs.Common.{◌≡◌}
use Rattle.cells.specs.Seated.{new_seats}
use Rattle.cells.proofs.server_cell.seats.new_seats.Given as goal

abbrev pub invariant-loop-number : goal.invariant-loop-number
invariant-loop-number l = l.seats.items ≡ new_seats l.me l.number
