use Rattle.std.proofs.Common.{◌≡◌, ◌∙◌, sym, arith, length, true}
use Rattle.std.specs.Prelude.{bytes_eq}
use Rattle.std.proofs.lemmas.Slice.Eq.{bytes_eq-Decides}
use Rattle.filters.proofs.CommandLemmas.{one_word}
use Rattle.filters.proofs.command.is_word.Goals as goal

pub returns-then-words-eq1 : goal.returns-then-words-eq1
returns-then-words-eq1 g c h =
    let one : length c.args.words.now ≡ 1 = omega (arith, c.if-words-eq1.true) in
    let same : bytes_eq c.as_str.result.now c.args.wanted.now ≡ true = sym c.eq.ensures ∙ h in
    one_word g.S.AsStr.text c.args.words.now c.index-words-0.result c.as_str.result.now c.args.wanted.now one c.index-words-0.is c.as_str.ensures
    ((bytes_eq-Decides c.as_str.result.now c.args.wanted.now).0 same)
