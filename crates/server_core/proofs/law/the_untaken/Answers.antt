use Rattle.server_core.proofs.FrameLemmas.{state_tells_jobs, no_state_is_untaken}
use Rattle.server_core.proofs.StayLemmas.{takings_stay}
use Rattle.server_core.proofs.law.the_untaken.Goals as goal

pub returns-clause-states : goal.returns-clause-states
returns-clause-states c = state_tells_jobs

pub returns-clause-no_states : goal.returns-clause-no_states
returns-clause-no_states c = no_state_is_untaken

pub returns-clause-stay : goal.returns-clause-stay
returns-clause-stay c = takings_stay
