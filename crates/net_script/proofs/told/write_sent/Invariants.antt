use Rattle.std.proofs.Common.{List, take}
use Rattle.std.specs.List.{flat_map}
use Rattle.std.specs.Io.KnownBytes.{Appends}
use Rattle.messages.specs.declared.frame.Frame.{Frame}
use Rattle.net_world.specs.Sending.{sent_in}
use Rattle.program_io.specs.Words.{with_line_feed}
use Rattle.net_script.specs.Printed.{sent_lines}
use Rattle.net_script.specs.Told.{AreBytesOf}
use Rattle.net_script.proofs.told.write_sent.Given as goal

abbrev pub invariant-loop-offset : goal.invariant-loop-offset
invariant-loop-offset g l =
    (sent : List Frame) → AreBytesOf sent l.first l.count (sent_in l.frames)
    → Appends (g.W.Write.contents l.initial.writer) (g.W.Write.contents l.writer) (flat_map with_line_feed (sent_lines l.first (take l.offset sent)))
