use Rattle.messages.proofs.ReadableLemmas.{frames_readable}
use Rattle.messages.proofs.piece_law.frames_are_readable.Goals as goal

pub returns : goal.returns
returns c = frames_readable c.lengths_are_bounded.ensures
