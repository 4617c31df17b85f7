use Rattle.std.proofs.Common.{◌≡◌, ◌∙◌, sym, arith, length, true, codes}
use Rattle.std.specs.Prelude.{bytes_eq}
use Rattle.std.proofs.lemmas.Slice.Eq.{bytes_eq-Decides}
use Rattle.targets.proofs.CommandLemmas.{three_words}
use Rattle.targets.proofs.command.are_tour_words.Goals as goal

pub returns-then-eq : goal.returns-then-eq
returns-then-eq g c h =
    let three : length c.args.words.now ≡ 3 = omega (arith, c.if-words-eq3.true) in
    let same : bytes_eq c.as_str.result.now (codes "tour") ≡ true = sym c.eq.ensures ∙ c.if-eq.true in
    three_words g.S.AsStr.text c.args.words.now c.index-words-1.result c.index-words-2.result c.as_str.result.now c.as_str-then-eq.result.now
    c.from.result c.args.job three c.index-words-1.is c.index-words-2.is c.as_str.ensures c.as_str-then-eq.ensures
    ((bytes_eq-Decides c.as_str.result.now (codes "tour")).0 same) (c.is_number.ensures h) (c.from.ensures ∙ c.job.view_is)
