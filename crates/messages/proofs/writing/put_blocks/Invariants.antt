use Rattle.std.proofs.Common.{◌≡◌, ◌++◌, take}
use Rattle.fc_base.specs.Layouts.{spelled_blocks}
use Rattle.messages.proofs.writing.put_blocks.Given as goal

abbrev pub invariant-loop-block : goal.invariant-loop-block
invariant-loop-block l = l.out.items ≡ l.fn.out.items ++ spelled_blocks (take l.block-index l.blocks)
