use Rattle.messages.proofs.FrameLawLemmas.{no_frame_begins_another}
use Rattle.messages.proofs.piece_law.no_frame_begins_another.Goals as goal

pub returns : goal.returns
returns c = no_frame_begins_another c.one_spelling.ensures.reads_back
