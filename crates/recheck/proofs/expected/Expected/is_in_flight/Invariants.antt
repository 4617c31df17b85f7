use Rattle.std.proofs.Common.{◌≡◌, ◌&&◌, false, eqb, take}
use Rattle.std.specs.List.{list_any}
use Rattle.recheck.specs.Faults.{is_write}
use Rattle.recheck.proofs.expected.Expected.is_in_flight.Given as goal

abbrev pub invariant-loop-write : goal.invariant-loop-write
invariant-loop-write l =
    list_any (λ w. eqb w.block l.block && is_write l.self l.block l.bytes w.seq) (take l.write-index l.self.in_flight) ≡ false
