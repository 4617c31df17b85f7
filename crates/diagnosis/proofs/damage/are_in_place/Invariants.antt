use Rattle.std.proofs.Common.{ℕ, ◌<◌}
use Rattle.std.specs.Prelude.{IsTrue}
use Rattle.diagnosis.specs.Damage.{is_in_place}
use Rattle.diagnosis.specs.Pieces.{piece_at}
use Rattle.diagnosis.proofs.damage.are_in_place.Given as goal

abbrev pub invariant-loop-number : goal.invariant-loop-number
invariant-loop-number l =
    (number : ℕ) → number < l.number → IsTrue (is_in_place l.expected l.block number (piece_at l.expected l.bytes number))
