use Rattle.std.specs.List.{flat_map, range_with_len}
use Rattle.std.specs.Io.KnownBytes.{Appends}
use Rattle.recheck.specs.Faults.{is_checked}
use Rattle.targets.specs.MapLines.{edge_words}
use Rattle.targets.proofs.map_unchecked.write_edges.Given as goal

abbrev pub invariant-loop-block : goal.invariant-loop-block
invariant-loop-block g l =
    Appends (g.W.Write.contents l.initial.writer) (g.W.Write.contents l.writer) (flat_map (edge_words (is_checked l.expected) l.expected.job.blocks) (range_with_len 0 l.block))
