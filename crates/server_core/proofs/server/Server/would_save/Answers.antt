use Rattle.std.proofs.Common.{sym, ap, ◌∙◌}
use Rattle.server_core.specs.FrameAnswers.{would_save}
use Rattle.server_core.proofs.UnsavedLemmas.{no_piece_saves}
use Rattle.server_core.proofs.server.Server.would_save.Goals as goal

pub returns-in-Piece : goal.returns-in-Piece
returns-in-Piece g c o past s = sym (ap (would_save o past) c.in-Piece.is ∙ no_piece_saves o past c.in-Piece.piece c.keeps_its_ranges.ensures)
