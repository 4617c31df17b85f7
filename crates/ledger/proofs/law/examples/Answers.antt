use Rattle.std.proofs.Common.{refl, inl}
use Rattle.ledger.proofs.law.examples.Goals as goal

pub returns-clause-kept : goal.returns-clause-kept
returns-clause-kept c = ((refl, (refl, (refl, tt))), (inl refl, (refl, (refl, tt))))

pub returns-clause-alone : goal.returns-clause-alone
returns-clause-alone c = (refl, refl)
