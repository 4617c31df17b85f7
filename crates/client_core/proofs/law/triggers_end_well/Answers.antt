use Rattle.client_core.proofs.TriggerLemmas.{triggers_end_well}
use Rattle.client_core.proofs.law.triggers_end_well.Goals as goal

pub returns : goal.returns
returns c = triggers_end_well c.found_after_a_push.ensures.last c.first_kept_stays.ensures
