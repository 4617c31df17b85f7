use Rattle.messages.proofs.AnyOrder.{pieces_give_the_bytes, pieces_give_the_packet}
use Rattle.messages.proofs.piece_law.pieces_come_together.Goals as goal

pub returns-clause-bytes : goal.returns-clause-bytes
returns-clause-bytes c = pieces_give_the_bytes

pub returns-clause-packet : goal.returns-clause-packet
returns-clause-packet c = pieces_give_the_packet c.one_spelling.ensures.reads_back
