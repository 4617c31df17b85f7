use Rattle.messages.proofs.FrameLemmas.{length_fits}
use Rattle.messages.proofs.FramesOfLemmas.{frames_few}
use Rattle.messages.proofs.piece_law.frames_are_few.Goals as goal

pub returns : goal.returns
returns c p h = frames_few p (length_fits c.one_spelling.ensures.reads_back p h)
