-- A server may go from one thread to another, where its notes may.
use denote.RattleType.{RattleType}
use denote.Param.Send.{IsSend, sendable}
use Rattle.std.proofs.Crossing.{crosses}
use Rattle.std.proofs.MapsCrossing.{crosses as maps}
use Rattle.fc_base.proofs.Sending.{fault_field_sent}
use Rattle.engine.proofs.Sending.{engine_sent}
use Rattle.server_core.specs.contracts.job_run.JobRun as job_run
use Rattle.server_core.specs.contracts.run.Run as run
use Rattle.server_core.specs.contracts.progress.Progress as progress
use Rattle.server_core.specs.contracts.open_check.OpenCheck as open_check
use Rattle.server_core.specs.contracts.machine.Machine as machine
use Rattle.server_core.specs.contracts.server.Server as server

job_run_sent : IsSend (job_run.the_field).row
job_run_sent = search (engine_sent, sendable, crosses, maps) depth 100 fits 20000

run_sent : IsSend (run.the_field).row
run_sent = search (job_run_sent, sendable, crosses, maps) depth 100 fits 20000

progress_sent : IsSend (progress.the_field).row
progress_sent = search (fault_field_sent, sendable, crosses, maps) depth 100 fits 20000

open_check_sent : IsSend (open_check.the_field).row
open_check_sent = search (progress_sent, sendable, crosses, maps) depth 100 fits 20000

machine_sent : IsSend (machine.the_field).row
machine_sent = search (run_sent, open_check_sent, sendable, crosses, maps) depth 100 fits 20000

pub server_sent : (T : RattleType) → IsSend T → IsSend (server.the_row T)
server_sent T s = search (machine_sent, sendable, crosses, maps) depth 100 fits 20000
