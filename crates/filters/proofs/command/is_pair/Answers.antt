use Rattle.std.proofs.Common.{◌≡◌, ◌∙◌, sym, arith, length, true}
use Rattle.std.specs.Prelude.{bytes_eq}
use Rattle.std.proofs.lemmas.Slice.Eq.{bytes_eq-Decides}
use Rattle.filters.proofs.CommandLemmas.{two_words}
use Rattle.filters.proofs.command.is_pair.Goals as goal

pub returns-then-eq : goal.returns-then-eq
returns-then-eq g c h =
    let two : length c.args.words.now ≡ 2 = omega (arith, c.if-words-eq2.true) in
    let same : bytes_eq c.as_str.result.now c.args.wanted.now ≡ true = sym c.eq.ensures ∙ c.if-eq.true in
    two_words g.S.AsStr.text c.args.words.now c.index-words-0.result c.index-words-1.result c.as_str.result.now c.as_str-then-eq.result.now c.args.wanted.now
    c.generation.inside.0 c.args.generation two c.index-words-0.is c.index-words-1.is c.as_str.ensures c.as_str-then-eq.ensures
    ((bytes_eq-Decides c.as_str.result.now c.args.wanted.now).0 same) (c.is_unsigned.ensures h) c.generation.view_is
