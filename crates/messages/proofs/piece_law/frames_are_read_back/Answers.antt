use Rattle.messages.proofs.FrameLawLemmas.{frames_are_read}
use Rattle.messages.proofs.piece_law.frames_are_read_back.Goals as goal

pub returns : goal.returns
returns c = frames_are_read c.one_spelling.ensures.reads_back
