use Rattle.messages.proofs.SpelledLemmas.{frames_spelled}
use Rattle.messages.proofs.network_law.frames_are_spelled.Goals as goal

pub returns : goal.returns
returns c = frames_spelled c.frames_are_readable.ensures
