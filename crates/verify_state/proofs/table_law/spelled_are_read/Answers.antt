use Rattle.verify_state.proofs.ReadingLemmas.{spelled_are_read}
use Rattle.verify_state.proofs.table_law.spelled_are_read.Goals as goal

pub returns : goal.returns
returns c = spelled_are_read
