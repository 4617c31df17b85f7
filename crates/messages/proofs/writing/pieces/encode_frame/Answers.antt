use Rattle.messages.proofs.FramesOfLemmas.{piece_short}
use Rattle.messages.proofs.writing.pieces.encode_frame.Goals as goal

pub returns-in_ok-put_piece-in-Piece-clause-len : goal.returns-in_ok-put_piece-in-Piece-clause-len
returns-in_ok-put_piece-in-Piece-clause-len c =
    piece_short c.put_piece.new.out.items c.new-out.result.items
    (record { from = c.from.result; to = c.to.result; tag = c.tag.result; at = c.at.result; bytes = c.bytes.result.now })
    c.new-out.ensures.items c.in_ok-put_piece-in-Piece.ensures c.bytes.ensures.range
