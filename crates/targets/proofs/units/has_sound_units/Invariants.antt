use Rattle.std.proofs.Common.{◌≡◌, true, length}
use Rattle.std.specs.List.{list_all, range_with_len}
use Rattle.targets.specs.Units.{is_sound_unit}
use Rattle.targets.proofs.units.has_sound_units.Given as goal

abbrev pub invariant-loop-number : goal.invariant-loop-number
invariant-loop-number l = record {
  sound : list_all (is_sound_unit l.expected l.unit l.block l.bytes) (range_with_len 0 l.number) ≡ true;
  wanted : length l.wanted ≡ length l.initial.wanted;
}
