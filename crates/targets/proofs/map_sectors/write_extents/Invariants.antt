use Rattle.std.specs.List.{flat_map, range_with_len}
use Rattle.std.specs.Io.KnownBytes.{Appends}
use Rattle.targets.specs.MapSectors.{sector_words}
use Rattle.targets.proofs.map_sectors.write_extents.Given as goal

abbrev pub invariant-loop-number : goal.invariant-loop-number
invariant-loop-number g l =
    Appends (g.W.Write.contents l.initial.writer) (g.W.Write.contents l.writer)
    (flat_map (sector_words l.expected l.bytes l.sectors) (range_with_len 0 l.number))
