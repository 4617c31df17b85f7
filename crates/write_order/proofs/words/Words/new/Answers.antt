use Rattle.std.proofs.Common.{◌≡◌, ◌∙◌, sym, arith}
use Rattle.write_order.specs.Words.{state_after}
use Rattle.write_order.proofs.WordSteps.{word_from_step, state_from_step, state_after-zero, same_words}
use Rattle.write_order.proofs.words.Words.new.Goals as goal

pub returns : goal.returns
returns c =
    let seed = c.args.seed in
    let at0 : c.seed_from_u64-generator.result ≡ state_after seed 0 =
    c.seed_from_u64-generator.ensures ∙ sym (state_after-zero seed) in
    let at1 = state_from_step seed 0 1 _ _ _ c.next_word.ensures at0 (omega arith) in
    let at2 = state_from_step seed 1 2 _ _ _ c.next_word-2.ensures at1 (omega arith) in
    let at3 = state_from_step seed 2 3 _ _ _ c.next_word-3.ensures at2 (omega arith) in
    same_words _ _ _ _ _ _ _ _ _ _ (word_from_step seed 0 _ _ _ c.next_word.ensures at0)
    (word_from_step seed 1 _ _ _ c.next_word-2.ensures at1)
    (word_from_step seed 2 _ _ _ c.next_word-3.ensures at2)
    (word_from_step seed 3 _ _ _ c.next_word-4.ensures at3)
    (state_from_step seed 3 4 _ _ _ c.next_word-4.ensures at3 (omega arith))
