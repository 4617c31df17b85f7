use Rattle.messages.proofs.Assembled.{only_whole_bodies}
use Rattle.messages.proofs.piece_law.only_whole_bodies_are_given.Goals as goal

pub returns : goal.returns
returns c = only_whole_bodies
