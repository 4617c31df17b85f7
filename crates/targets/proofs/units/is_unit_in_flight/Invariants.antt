use Rattle.std.proofs.Common.{◌≡◌, ◌&&◌, false, eqb, length, take}
use Rattle.std.specs.List.{list_any}
use Rattle.targets.specs.Units.{is_unit_of}
use Rattle.targets.proofs.units.is_unit_in_flight.Given as goal

abbrev pub invariant-loop-write : goal.invariant-loop-write
invariant-loop-write l = record {
  none : list_any (λ w. eqb w.block l.block && is_unit_of l.expected l.unit l.block l.bytes l.number w.seq) (take l.write-index l.writes) ≡ false;
  wanted : length l.wanted ≡ length l.initial.wanted;
}
