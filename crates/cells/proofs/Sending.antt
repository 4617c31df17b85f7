-- Nodes under their locks and the seats at a server may go from one thread to another, where their
-- notes may.
use denote.RattleType.{RattleType}
use denote.Param.Send.{IsSend, sendable}
use Rattle.std.proofs.Crossing.{crosses}
use Rattle.std.specs.contracts.snapshot.Snapshot as snapshot
use Rattle.fc_base.proofs.Sending.{fault_sent}
use Rattle.messages.proofs.Sending.{frames_sent}
use Rattle.disk_model.specs.declared.notes.Notes.{Ghosts}
use Rattle.server_core.proofs.Sending.{server_sent as server_core_sent}
use Rattle.client_core.proofs.Sending.{client_sent as client_core_sent}
use Rattle.node.proofs.Sending.{power_sent}
use Rattle.cells.specs.contracts.entry.HistoryEntry as entry
use Rattle.cells.specs.contracts.node_cell.Cell as cell
use Rattle.cells.specs.contracts.client_cell.ClientCell as client
use Rattle.cells.specs.contracts.server_cell.ServerCell as server
use Rattle.cells.specs.contracts.server_cell.seat.Seat as seat

entry_sent : IsSend entry.the_row
entry_sent = search (fault_sent, frames_sent, sendable, crosses) depth 60 fits 20000

cell_sent : (C N : RattleType) → IsSend C → IsSend N → IsSend (cell.the_field C N).row
cell_sent C N c n = search (power_sent, entry_sent, sendable, crosses) depth 60 fits 20000

opened_sent : (T : RattleType) → IsSend (snapshot.the_row T)
opened_sent T = search (sendable, crosses) depth 20

pub client_sent : (T : RattleType) (notes : Ghosts T.Denot) → IsSend T → IsSend (client.the_field T notes).row
client_sent T notes s = search (cell_sent, client_core_sent, opened_sent, sendable, crosses) depth 60 fits 20000

pub server_sent : (T : RattleType) (notes : Ghosts T.Denot) → IsSend T → IsSend (server.the_field T notes).row
server_sent T notes s = search (cell_sent, server_core_sent, sendable, crosses) depth 60 fits 20000

pub seat_sent : IsSend seat.the_row
seat_sent = search (fault_sent, sendable, crosses) depth 60 fits 20000
