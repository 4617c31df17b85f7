use Rattle.diagnosis.proofs.PieceLemmas.{piece_says, says_piece}
use Rattle.diagnosis.proofs.law.pieces_say.Goals as goal

pub returns : goal.returns
returns c e stamps sector len fits stamp =
    (λ told. piece_says e sector stamp stamps fits len told, λ says. says_piece e sector stamp stamps says.1 says.0)
