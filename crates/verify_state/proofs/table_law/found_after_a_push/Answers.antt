use Rattle.verify_state.proofs.TableLemmas.{last_is_found, found_in_push, distinct_push}
use Rattle.verify_state.proofs.table_law.found_after_a_push.Goals as goal

pub returns-clause-last : goal.returns-clause-last
returns-clause-last c = last_is_found

pub returns-clause-only : goal.returns-clause-only
returns-clause-only c = found_in_push

pub returns-clause-apart : goal.returns-clause-apart
returns-clause-apart c = distinct_push
