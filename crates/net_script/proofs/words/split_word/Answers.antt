use Rattle.std.proofs.Common.{◌∷◌, drop, sym, ◌∙◌, ap}
use Rattle.net_script.specs.Words.{words_of}
use Rattle.net_script.proofs.WordLemmas.{no_words, splits_word}
use Rattle.net_script.proofs.words.split_word.Goals as goal

pub returns-then-len-eq0 : goal.returns-then-len-eq0
returns-then-len-eq0 c =
    no_words c.args.line.now c.split_at.result.1.now c.leading_blanks.result c.word_len-len.result c.leading_blanks.ensures.value c.split_at.ensures.back
    c.word_len-len.ensures.value c.if-len-eq0.true

pub returns : goal.returns
returns c =
    let rest = c.split_at.result.1.now in
    let len = c.word_len-len.result in
    splits_word c.args.line.now rest c.leading_blanks.result len c.leading_blanks.ensures.value c.split_at.ensures.back c.word_len-len.ensures.value
    c.if-len-eq0.false
    ∙ ap (λ w. w ∷ words_of (drop len rest)) (sym c.split_at-2.ensures.front)
    ∙ ap (λ r. c.split_at-2.result.0.now ∷ words_of r) (sym c.split_at-2.ensures.back)
