use Rattle.filters.proofs.ServerLossLaws.{faults_are_losses, listed_have_lost, losses_are_faults, survivors_are_no_faults}
use Rattle.filters.proofs.server_law.server_loss_law.Goals as goal

pub returns-clause-faults : goal.returns-clause-faults
returns-clause-faults c = faults_are_losses c.faults_are_losses.ensures.losses

pub returns-clause-listed : goal.returns-clause-listed
returns-clause-listed c = listed_have_lost c.faults_are_losses.ensures.losses

pub returns-clause-survivors : goal.returns-clause-survivors
returns-clause-survivors c = survivors_are_no_faults c.faults_are_losses.ensures.losses

pub returns-clause-losses : goal.returns-clause-losses
returns-clause-losses c =
    losses_are_faults c.taken_law.ensures c.sets_law.ensures.completed c.overlap_law.ensures.later c.writes_stay_in_the_region.ensures
    c.faults_are_losses.ensures.losses
