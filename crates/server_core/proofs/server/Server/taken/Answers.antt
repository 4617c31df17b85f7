-- The state that was taken is read from the words up to a failed save.
use Rattle.server_core.specs.Answers.{now, shown_entries}
use Rattle.server_core.specs.Hearing.{packets_heard}
use Rattle.server_core.proofs.server.Server.taken.Goals as goal

pub returns : goal.returns
returns g c o past s = c.taken.ensures (now o (shown_entries (packets_heard o past))) s.core.keeps
