use Rattle.diagnosis.proofs.OwnLemmas.{lost_is_older, unissued_is_not_issued}
use Rattle.diagnosis.proofs.law.own_writes_are_what_they_are_told.Goals as goal

pub returns-clause-lost : goal.returns-clause-lost
returns-clause-lost c key job state block bytes k lt h = lost_is_older key job state block bytes k lt h

pub returns-clause-unissued : goal.returns-clause-unissued
returns-clause-unissued c key job state block bytes k lt h issued goes =
    unissued_is_not_issued c.faults_are_losses.ensures.losses key job state block bytes k lt h issued goes
