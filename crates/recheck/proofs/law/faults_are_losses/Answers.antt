use Rattle.recheck.proofs.LossLemmas.{faults_are_losses, holders_are_no_faults}
use Rattle.recheck.proofs.law.faults_are_losses.Goals as goal

pub returns-clause-losses : goal.returns-clause-losses
returns-clause-losses c = faults_are_losses

pub returns-clause-holders : goal.returns-clause-holders
returns-clause-holders c = holders_are_no_faults
