-- A frame is accepted as the packet or the piece that it is.
use Rattle.node.proofs.hearer.Hearer.deliver.Goals as goal

pub returns-in-Whole : goal.returns-in-Whole
returns-in-Whole g c o past s = rw c.in-Whole.is (c.accept.ensures o past s)

pub returns-in-Piece : goal.returns-in-Piece
returns-in-Piece g c o past s = rw c.in-Piece.is (c.join.ensures o past s)
