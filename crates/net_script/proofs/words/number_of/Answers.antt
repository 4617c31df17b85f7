use Rattle.std.proofs.Common.{sym, ◌∙◌, subst}
use Rattle.std.specs.Str.Parse.{ParsesUnsigned}
use Rattle.net_script.proofs.NumberLemmas.{digits_are_text, parsed}
use Rattle.net_script.proofs.words.number_of.Goals as goal

pub returns-in-Ok : goal.returns-in-Ok
returns-in-Ok c =
    c.ok.ensures.value
    ∙ parsed c.args.word.now c.parse.result (sym c.if-not-are_digits.ensures)
    (subst (λ ds. ParsesUnsigned 64 10 ds c.parse.result) c.in-Ok.ensures.cases.0 c.parse.ensures.value.0)

pub returns-in-Err : goal.returns-in-Err
returns-in-Err c = absurd (c.in-Err.ensures.cases.0 (digits_are_text c.args.word.now (sym c.if-not-are_digits.ensures)))
