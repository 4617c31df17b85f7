use Rattle.std.proofs.Common.{arith}
use Rattle.std.specs.Int.{w32}
use Rattle.fc_base.specs.Layouts.{bytes_of}
use Rattle.filters.proofs.WriteLemmas.{element_more}
use Rattle.filters.proofs.telling.put_blocks.Goals as goal

pub loop-block-preserved : goal.loop-block-preserved
loop-block-preserved g c =
    element_more (g.W.Output.written c.args.writer.now) (g.W.Output.written c.loop-block.writer) (g.W.Output.written c.put_u32.new.writer) (bytes_of w32)
    c.args.blocks.now c.loop-block.block-index 0 (omega (arith, c.loop-block-test.true)) c.loop-block.invariant c.put_u32.ensures
