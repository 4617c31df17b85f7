use Rattle.server_core.proofs.OpenLemmas.{tickets_tell}
use Rattle.server_core.proofs.open_law.tickets_tell_origins.Goals as goal

pub returns : goal.returns
returns c = tickets_tell
