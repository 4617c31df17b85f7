use Rattle.std.proofs.Common.{arith}
use Rattle.targets.proofs.MapJobLemmas.{comes_behind}
use Rattle.targets.proofs.map_input.next_block.Goals as goal

pub returns-in-1 : goal.returns-in-1
returns-in-1 g c =
    comes_behind (g.R.Read.remaining c.args.reader.now) (g.R.Read.remaining c.fill_whole.new.reader) (g.R.Read.remaining c.block_bytes.new.reader)
    c.fill_whole.new.buffer c.block_bytes.new.bytes c.in_ok-fill_whole.field-0 c.block_bytes.result c.if-not-branch.false c.in_ok-fill_whole.ensures
    (omega (arith, c.fill_whole.auto.buffer)) c.in-1.is c.block_bytes.ensures
