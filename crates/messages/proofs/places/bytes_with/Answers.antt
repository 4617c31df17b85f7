use Rattle.std.proofs.Common.{◌∙◌, sym}
use Rattle.messages.proofs.Joining.{here_some, here_this, here_none}
use Rattle.messages.proofs.places.bytes_with.Goals as goal

pub returns-in-Some : goal.returns-in-Some
returns-in-Some c = here_some c.args.piece.now c.args.filled.now c.args.at c.in-Some.bytes.now c.in-Some.ensures

pub returns-in-None : goal.returns-in-None
returns-in-None c =
    here_this c.args.piece.now c.args.filled.now c.args.at c.bytes.result.now c.in-None.ensures (sym c.at.ensures ∙ c.if-at.true) c.bytes.ensures.value

pub returns-in-None-2 : goal.returns-in-None-2
returns-in-None-2 c = here_none c.args.piece.now c.args.filled.now c.args.at c.at.result c.in-None-2.ensures c.at.ensures c.if-at.false
