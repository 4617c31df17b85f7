use Rattle.verify_state.proofs.TableLemmas.{stays_found, key_of_found}
use Rattle.verify_state.proofs.table_law.found_states.Goals as goal

pub returns-clause-stays : goal.returns-clause-stays
returns-clause-stays c = stays_found

pub returns-clause-key : goal.returns-clause-key
returns-clause-key c = key_of_found
