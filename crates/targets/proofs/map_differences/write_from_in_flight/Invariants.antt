use Rattle.std.proofs.Common.{take}
use Rattle.std.specs.List.{flat_map}
use Rattle.std.specs.Io.KnownBytes.{Appends}
use Rattle.targets.specs.MapDifferences.{differs_from_placed}
use Rattle.targets.proofs.map_differences.write_from_in_flight.Given as goal

abbrev pub invariant-loop-write : goal.invariant-loop-write
invariant-loop-write g l =
    Appends (g.W.Write.contents l.initial.writer) (g.W.Write.contents l.writer)
    (flat_map (differs_from_placed l.expected l.block l.bytes) (take l.write-index l.writes))
