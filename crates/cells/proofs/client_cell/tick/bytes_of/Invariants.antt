use Rattle.std.proofs.Common.{◌≡◌, List, ℕ, length, take}
use Rattle.std.specs.List.{sum_by}
use Rattle.cells.proofs.client_cell.tick.bytes_of.Given as goal

abbrev pub invariant-loop-i : goal.invariant-loop-i
invariant-loop-i l = l.bytes ≡ sum_by (λ (frame : List ℕ). length frame) (take l.i l.frames)
