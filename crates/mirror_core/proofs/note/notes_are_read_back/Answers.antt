use Rattle.mirror_core.proofs.NoteLemmas.{says_what_is_written}
use Rattle.mirror_core.proofs.note.notes_are_read_back.Goals as goal

pub returns : goal.returns
returns c = says_what_is_written c.one_spelling.ensures.reads_back
