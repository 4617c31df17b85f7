-- How far the check of a job is is read from the words up to a failed save.
use Rattle.server_core.specs.Answers.{now, shown_entries}
use Rattle.server_core.specs.Hearing.{packets_heard}
use Rattle.server_core.proofs.server.Server.check_progress.Goals as goal

pub returns : goal.returns
returns g c o past s = c.check_progress.ensures (now o (shown_entries (packets_heard o past))) s.core.keeps
