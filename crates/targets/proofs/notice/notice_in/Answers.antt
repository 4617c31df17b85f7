use Rattle.std.proofs.Common.{arith}
use Rattle.targets.proofs.NoticeLemmas.{notice_is}
use Rattle.targets.proofs.notice.notice_in.Goals as goal

pub returns : goal.returns
returns c =
    rw (c.notice_of.ensures)
    (notice_is c.args.bytes.now c.split_u64-kind.result.1.now c.split_u64-kind.result.0 c.split_u64-write.result.0
    (λ i. omega (arith, c.type_inv.bytes i)) c.requires c.split_u64-kind.ensures.rest
    c.split_u64-kind.ensures.number c.split_u64-write.ensures.number
    (omega (arith, c.split_u64-write.type_inv)))
