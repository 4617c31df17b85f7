use Rattle.std.proofs.Common.{arith}
use Rattle.filters.proofs.ReadLemmas.{head_is}
use Rattle.filters.proofs.record.head_in.Goals as goal

pub returns : goal.returns
returns c =
    head_is c.args.bytes.now c.split_u8-kind.result.1.now c.split_u8-kind.result.0 c.split_u64-length.result.0 (λ i. omega (arith, c.type_inv.bytes i)) c.requires
    c.split_u8-kind.ensures.rest c.split_u8-kind.ensures.number c.split_u64-length.ensures.number
