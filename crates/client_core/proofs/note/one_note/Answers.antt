use Rattle.client_core.proofs.NoteLemmas.{one_note}
use Rattle.client_core.proofs.note.one_note.Goals as goal

pub returns : goal.returns
returns c = one_note c.spelled_are_read.ensures
