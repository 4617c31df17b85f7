use Rattle.targets.proofs.LossLemmas.{survivors_are_no_faults, losses_are_faults}
use Rattle.targets.proofs.law.loss_law.Goals as goal

pub returns-clause-survivors : goal.returns-clause-survivors
returns-clause-survivors c = survivors_are_no_faults c.taken_law.ensures c.faults_are_losses.ensures.losses

pub returns-clause-losses : goal.returns-clause-losses
returns-clause-losses c =
    losses_are_faults c.taken_law.ensures c.sets_law.ensures.completed c.overlap_law.ensures.later c.writes_stay_in_the_region.ensures
    c.faults_are_losses.ensures.losses
