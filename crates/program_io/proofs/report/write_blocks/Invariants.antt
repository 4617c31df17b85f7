use Rattle.std.proofs.Common.{map, take, decimal}
use Rattle.std.specs.List.{flat_map}
use Rattle.std.specs.Io.KnownBytes.{Appends}
use Rattle.program_io.specs.Words.{blank_before}
use Rattle.program_io.proofs.report.write_blocks.Given as goal

abbrev pub invariant-loop-block : goal.invariant-loop-block
invariant-loop-block g l =
    Appends (g.W.Write.contents l.initial.writer) (g.W.Write.contents l.writer) (flat_map blank_before (map decimal (take l.block-index l.blocks)))
