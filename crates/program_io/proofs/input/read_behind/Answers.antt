use Rattle.std.proofs.Common.{arith, length-take-le}
use borrow.Rule.Slice.PartMut.{take_put}
use Rattle.program_io.proofs.Filling.{part_behind}
use Rattle.program_io.proofs.input.read_behind.Goals as goal

pub returns-clause-front : goal.returns-clause-front
returns-clause-front g c = take_put _ _ c.args.buffer.now _ (omega (arith, c.requires))

pub returns-clause-bytes : goal.returns-clause-bytes
returns-clause-bytes g c =
    part_behind _ _ c.read.result _ c.read.new.buf _ c.args.filled
    (length-take-le _ c.args.buffer.now (omega (arith, c.requires))) c.read.ensures.bound c.read.ensures.bytes
