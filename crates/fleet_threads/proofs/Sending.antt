-- What the threads of a fleet share may go from one to another.
use denote.Param.Send.{IsSend, IsSync, sendable}
use Rattle.std.proofs.Crossing.{crosses}
use Rattle.fc_base.proofs.Sending.{fault_sent}
use Rattle.disk_model.proofs.Sending.{disk_sent}
use Rattle.messages.proofs.Sending.{hub_sent}
use Rattle.cells.proofs.Sending.{client_sent, server_sent, seat_sent}
use Rattle.fleet_threads.specs.contracts.crew.WorkerSeat as hand
use Rattle.fleet_threads.specs.contracts.flags.Flags as flags
use Rattle.fleet_threads.specs.contracts.nodes.Nodes as nodes

-- A worker.
pub hand_sent : IsSend hand.the_row
hand_sent = search (seat_sent, sendable, crosses) depth 60 fits 20000

-- The nodes, and what threads tell each other.
pub nodes_sync : IsSync nodes.the_row
nodes_sync = search (hub_sent, client_sent, server_sent, disk_sent, sendable, crosses) depth 60 fits 20000

pub flags_sync : IsSync flags.the_row
flags_sync = search (fault_sent, sendable, crosses) depth 60 fits 20000
