use Rattle.std.proofs.Common.{arith}
use Rattle.targets.proofs.TextLemmas.{length_bytes}
use Rattle.targets.proofs.texts.length_in.Goals as goal

pub returns : goal.returns
returns c = length_bytes c.args.bytes.now c.split_u32-length.result.0 (λ i. omega (arith, c.type_inv.bytes i)) c.requires c.split_u32-length.ensures.number
