use Rattle.std.proofs.Common.{◌≡◌, ◌∙◌, sym, arith, length, true}
use Rattle.std.specs.Prelude.{bytes_eq, codes}
use Rattle.std.proofs.lemmas.Slice.Eq.{bytes_eq-Decides}
use Rattle.commands.proofs.CommandLemmas.{five_words}
use Rattle.commands.proofs.command.asks_live.Goals as goal

pub returns-then-is_number-2 : goal.returns-then-is_number-2
returns-then-is_number-2 g c h =
    let five : length c.args.words.now ≡ 5 = omega (arith, c.if-words-eq5.true) in
    let live : bytes_eq c.as_str.result.now (codes "live") ≡ true = sym c.eq.ensures ∙ c.if-eq.true in
    let there : bytes_eq c.as_str-then-is_number-2.result.now c.args.path.now ≡ true = sym c.eq-then-is_number-2.ensures ∙ h in
    five_words g.S.AsStr.text c.args.words.now c.index-words-1.result c.index-words-2.result c.index-words-3.result c.index-words-4.result
    c.as_str.result.now c.as_str-then-eq.result.now c.as_str-then-is_number.result.now c.as_str-then-is_number-2.result.now c.args.path.now
    c.from.result c.from-then-is_number.result c.args.size five
    c.index-words-1.is c.index-words-2.is c.index-words-3.is c.index-words-4.is
    c.as_str.ensures c.as_str-then-eq.ensures c.as_str-then-is_number.ensures c.as_str-then-is_number-2.ensures
    ((bytes_eq-Decides c.as_str.result.now (codes "live")).0 live)
    (c.is_number.ensures c.if-is_number.true) c.from.ensures
    (c.is_number-then-is_number.ensures c.if-is_number-2.true) c.from-then-is_number.ensures
    ((bytes_eq-Decides c.as_str-then-is_number-2.result.now c.args.path.now).0 there)
