use Rattle.messages.proofs.Joining.{piece_length}
use Rattle.messages.proofs.piece.Piece.length.Goals as goal

pub returns-clause-range : goal.returns-clause-range
returns-clause-range c = piece_length c.self.inside.parts c.self.invariant
