use Rattle.verify_state.proofs.FieldLemmas.{are_bytes}
use Rattle.verify_state.proofs.PieceLemmas.{keeps, said_by_list}
use Rattle.verify_state.proofs.law.bytes_say_states.Goals as goal

pub returns-clause-says_a_state : goal.returns-clause-says_a_state
returns-clause-says_a_state c = λ bytes fits e. keeps bytes (are_bytes bytes fits) e

pub returns-clause-says_its_list : goal.returns-clause-says_its_list
returns-clause-says_its_list c = λ bytes e one. said_by_list bytes one
