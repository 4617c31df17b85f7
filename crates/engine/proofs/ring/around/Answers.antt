use Rattle.std.proofs.Common.{◌≡◌, ◌+◌, ◌%◌, ap, sym, ◌∙◌, arith}
use Rattle.std.proofs.Math.Nat.{mod-eq_of_lt}
use Rattle.fc_base.specs.Marks.{is_marked}
use Rattle.engine.proofs.RingLemmas.{around-both}
use Rattle.engine.proofs.ring.around.Goals as goal

pub returns-then-ahead-ge64 : goal.returns-then-ahead-ge64
returns-then-ahead-ge64 c i below inside =
    let slot : (c.args.first + i) % c.args.length ≡ c.args.first + i = mod-eq_of_lt (omega arith) in
    rw (← c.words-words.ensures.value) (c.from.ensures i below (omega arith) ∙ ap (is_marked c.words-words.result) (sym slot))

pub returns : goal.returns
returns c i below inside =
    rw (← c.words-words.ensures.value) (around-both c.words-words.result c.from-2.result c.low_bits.result c.args.first c.args.length i c.requires.within
    (omega arith) below inside (c.from-2.ensures i below) c.requires.most (c.low_bits.ensures i below))
