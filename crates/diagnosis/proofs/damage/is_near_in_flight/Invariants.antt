use Rattle.std.proofs.Common.{◌≡◌, ◌&&◌, false, eqb, take}
use Rattle.std.specs.List.{list_any}
use Rattle.diagnosis.specs.Damage.{is_near}
use Rattle.diagnosis.proofs.damage.is_near_in_flight.Given as goal

abbrev pub invariant-loop-write : goal.invariant-loop-write
invariant-loop-write l =
    list_any (λ w. eqb w.block l.block && is_near l.expected l.block l.bytes w.seq) (take l.write-index l.expected.in_flight) ≡ false
