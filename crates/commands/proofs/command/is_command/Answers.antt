use Rattle.std.proofs.Common.{◌≡◌, ◌∙◌, sym, arith, length, true}
use Rattle.std.specs.Prelude.{bytes_eq}
use Rattle.std.proofs.lemmas.Slice.Eq.{bytes_eq-Decides}
use Rattle.commands.proofs.CommandLemmas.{two_words}
use Rattle.commands.proofs.command.is_command.Goals as goal

pub returns-then-words-eq2 : goal.returns-then-words-eq2
returns-then-words-eq2 g c h =
    let two : length c.args.words.now ≡ 2 = omega (arith, c.if-words-eq2.true) in
    let same : bytes_eq c.as_str.result.now c.args.command.now ≡ true = sym c.eq.ensures ∙ h in
    two_words g.S.AsStr.text c.args.words.now c.index-words-1.result c.as_str.result.now c.args.command.now two c.index-words-1.is c.as_str.ensures
    ((bytes_eq-Decides c.as_str.result.now c.args.command.now).0 same)
