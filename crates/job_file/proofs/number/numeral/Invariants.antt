use Rattle.job_file.proofs.Numerals.{IsSoFar}
use Rattle.job_file.proofs.number.numeral.Given as goal

abbrev pub invariant-loop-digit : goal.invariant-loop-digit
invariant-loop-digit l = IsSoFar l.radix l.digits l.digit-index l.value
