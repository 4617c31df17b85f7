use Rattle.std.proofs.Common.{◌≡◌, sym, ap, ◌∙◌, inl, inr, arith}
use Rattle.std.proofs.lemmas.Bool.{cases_lt}
use Rattle.commands.specs.Texts.{is_closing}
use Rattle.commands.proofs.texts.texts_of.Goals as goal

pub loop-at-preserved : goal.loop-at-preserved
loop-at-preserved c earlier before =
    elim (cases_lt earlier c.loop-at.at) [
      | inl below ↦ c.loop-at.invariant earlier below
      | inr past ↦
          let same : earlier ≡ c.loop-at.at = omega (arith, before, past) in
          ap (is_closing c.args.input.now) same ∙ (sym c.is_closing.ensures ∙ c.if-is_closing.false)
    ]
