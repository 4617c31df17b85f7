use Rattle.targets.proofs.WantedLawLemmas.{asked_suffice, digits_say, one_run_asks}
use Rattle.targets.proofs.WantedMapLemmas.{checked_suffice}
use Rattle.targets.proofs.law.wanted_law.Goals as goal

pub returns-clause-digits : goal.returns-clause-digits
returns-clause-digits c = digits_say

pub returns-clause-one_run : goal.returns-clause-one_run
returns-clause-one_run c = one_run_asks c.place_law.ensures.entries

pub returns-clause-asked : goal.returns-clause-asked
returns-clause-asked c = asked_suffice

pub returns-clause-checked : goal.returns-clause-checked
returns-clause-checked c = checked_suffice
