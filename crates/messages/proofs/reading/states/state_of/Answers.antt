use Rattle.std.proofs.Common.{sym}
use Rattle.messages.proofs.StateLemmas.{said_some, said_none}
use Rattle.messages.proofs.reading.states.state_of.Goals as goal

pub returns-in-Ok : goal.returns-in-Ok
returns-in-Ok c = sym (said_some c.args.bytes.now c.in-Ok.state c.in-Ok.ensures.0 c.in-Ok.ensures.1)

pub returns-in-Err : goal.returns-in-Err
returns-in-Err c = sym (said_none c.args.bytes.now c.in-Err.field-0 c.in-Err.ensures)
