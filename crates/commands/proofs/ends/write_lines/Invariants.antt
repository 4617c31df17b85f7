use Rattle.std.proofs.Common.{take}
use Rattle.std.specs.Io.KnownBytes.{Appends}
use Rattle.commands.specs.Live.{end_lines}
use Rattle.commands.proofs.ends.write_lines.Given as goal

abbrev pub invariant-loop-end : goal.invariant-loop-end
invariant-loop-end g l =
    Appends (g.W.Write.contents l.initial.writer) (g.W.Write.contents l.writer) (end_lines (take l.end-index l.ends))
