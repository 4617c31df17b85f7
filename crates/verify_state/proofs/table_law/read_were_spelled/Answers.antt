use Rattle.verify_state.proofs.ReadingLemmas.{read_were_spelled}
use Rattle.verify_state.proofs.table_law.read_were_spelled.Goals as goal

pub returns : goal.returns
returns c = read_were_spelled c.bytes_say_states.ensures.says_a_state
