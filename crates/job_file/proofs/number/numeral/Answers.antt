use Rattle.std.proofs.Common.{sym, ◌∙◌, arith}
use Rattle.job_file.proofs.Numerals.{numeral_stops}
use Rattle.job_file.proofs.number.numeral.Goals as goal

pub returns-in_err-value : goal.returns-in_err-value
returns-in_err-value c =
    c.from_residual.ensures ∙ sym (numeral_stops c.args.radix c.args.digits.now c.loop-digit.digit-index c.loop-digit.value (omega arith)
    (omega arith) c.loop-digit.invariant (sym c.with_digit.ensures ∙ c.in_err-value.was))
