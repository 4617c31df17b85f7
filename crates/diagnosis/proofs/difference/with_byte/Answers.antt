use Rattle.std.proofs.Common.{arith}
use Rattle.std.specs.Prelude.{bit_xor}
use Rattle.std.proofs.lemmas.Nat.{ones-le, xor_of_8}
use Rattle.diagnosis.proofs.difference.with_byte.Goals as goal

pub returns-clause-bits : goal.returns-clause-bits
returns-clause-bits c =
    let few = ones-le 8 (bit_xor c.args.byte c.args.other) (xor_of_8 c.args.byte c.args.other (omega arith) (omega arith)) in
    omega (arith, few)
