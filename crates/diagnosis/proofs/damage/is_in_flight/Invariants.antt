use Rattle.std.proofs.Common.{◌≡◌, ◌&&◌, false, eqb, take}
use Rattle.std.specs.List.{list_any}
use Rattle.diagnosis.proofs.damage.is_in_flight.Given as goal

abbrev pub invariant-loop-write : goal.invariant-loop-write
invariant-loop-write l =
    list_any (λ w. eqb w.block l.block && eqb w.seq l.seq) (take l.write-index l.expected.in_flight) ≡ false
