use Rattle.server_core.proofs.Due.{due_is_start}
use Rattle.server_core.proofs.law.due_starts.Goals as goal

pub returns : goal.returns
returns c = due_is_start
