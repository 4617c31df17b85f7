use Rattle.std.proofs.Common.{take}
use Rattle.filters.specs.Written.{Puts}
use Rattle.fc_base.specs.Layouts.{spelled_blocks}
use Rattle.filters.proofs.telling.put_blocks.Given as goal

abbrev pub invariant-loop-block : goal.invariant-loop-block
invariant-loop-block g l =
    Puts (g.W.Output.written l.initial.writer) (g.W.Output.written l.writer) (spelled_blocks (take l.block-index l.blocks))
