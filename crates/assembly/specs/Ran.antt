-- The nodes that ran. Histories are newest first.
use Rattle.std.specs.Prelude.{List, [], slice_get}
use Rattle.std.specs.Option.{option_map_or}
use Rattle.messages.specs.declared.node.Node.{Node}
use Rattle.messages.specs.declared.node.Node.TheVariants.{Server, Client, Mirror}
use Rattle.cells.specs.declared.entry.HistoryEntry.{HistoryEntry}
use Rattle.cells.specs.ServerCells.{ServerLog}
use Rattle.cells.specs.ClientCells.{ClientLog}

-- What ran: the client, and the servers in the order of their numbers.
pub record Ran : Type 0 where
  pub client : ClientLog
  pub servers : List ServerLog

-- What ran, by the log of the client and those of the servers.
abbrev pub ran_of : ClientLog → List ServerLog → Ran
ran_of client servers = record { client = client; servers = servers }

-- The history of a node, which is empty where it has no cell.
abbrev pub history_of : Ran → Node → List HistoryEntry
history_of r Client = r.client.history
history_of r Mirror = []
history_of r (Server s) = option_map_or (λ cell. cell.history) (slice_get r.servers s) []
