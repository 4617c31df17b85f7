use Rattle.std.proofs.Common.{arith}
use Rattle.targets.proofs.TourWordLemmas.{word_is}
use Rattle.targets.proofs.tour_word.word_in.Goals as goal

pub returns : goal.returns
returns c =
    rw (c.word_of.ensures)
    (word_is c.args.bytes.now c.split_u64-kind.result.1.now c.split_u64-tile.result.1.now c.split_u64-kind.result.0 c.split_u64-tile.result.0
    c.split_u64-number.result.0 (λ i. omega (arith, c.type_inv.bytes i)) c.requires c.split_u64-kind.ensures.rest c.split_u64-tile.ensures.rest
    c.split_u64-kind.ensures.number c.split_u64-tile.ensures.number c.split_u64-number.ensures.number (omega (arith, c.split_u64-tile.type_inv)) (omega (arith, c.split_u64-number.type_inv)))
