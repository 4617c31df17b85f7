use Rattle.std.proofs.Common.{arith}
use Rattle.engine.proofs.BitLemmas.{low_bits_are, all_bits_are}
use Rattle.engine.proofs.ring.low_bits.Goals as goal

pub returns-then-count-lt64 : goal.returns-then-count-lt64
returns-then-count-lt64 c i below = low_bits_are c.args.count i (omega arith)

pub returns-else-count-lt64 : goal.returns-else-count-lt64
returns-else-count-lt64 c i below = all_bits_are c.args.count i (omega arith) below
