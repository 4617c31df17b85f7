use Rattle.std.proofs.Common.{◌≡◌, ◌∙◌, sym, arith, length, true}
use Rattle.std.specs.Prelude.{bytes_eq}
use Rattle.std.proofs.lemmas.Slice.Eq.{bytes_eq-Decides}
use Rattle.targets.proofs.CommandLemmas.{four_words}
use Rattle.targets.proofs.command.are_words.Goals as goal

pub returns-then-is_number : goal.returns-then-is_number
returns-then-is_number g c h =
    let four : length c.args.words.now ≡ 4 = omega (arith, c.if-words-eq4.true) in
    let same : bytes_eq c.as_str.result.now c.args.command.now ≡ true = sym c.eq.ensures ∙ c.if-eq.true in
    four_words g.S.AsStr.text c.args.words.now c.index-words-1.result c.index-words-2.result c.index-words-3.result
    c.as_str.result.now c.as_str-then-eq.result.now c.as_str-then-is_number.result.now c.args.command.now c.run.inside.0 c.from.result
    c.args.run c.args.job four c.index-words-1.is c.index-words-2.is c.index-words-3.is
    c.as_str.ensures c.as_str-then-eq.ensures c.as_str-then-is_number.ensures
    ((bytes_eq-Decides c.as_str.result.now c.args.command.now).0 same)
    (c.is_number.ensures c.if-is_number.true) c.run.view_is (c.is_number-then-is_number.ensures h) (c.from.ensures ∙ c.job.view_is)
