use Rattle.std.proofs.Common.{◌*◌, ◌≤◌, length, List, ℕ}
use Rattle.std.specs.Prelude.{sum_by, All}
use Rattle.messages.specs.Network.{IsSpelled}
use Rattle.base_tests.proofs.tests.network.frames_to.Given as goal

abbrev pub invariant-loop-to : goal.invariant-loop-to
invariant-loop-to l =
    All IsSpelled l.frames × (length l.frames ≤ 17 * l.to-index)
    × (sum_by (λ (frame : List ℕ). length frame) l.frames ≤ 841 * l.to-index)
