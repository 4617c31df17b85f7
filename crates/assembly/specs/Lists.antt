-- What nodes ran, and the lists that their histories make. There is no mirror among them. All lists
-- are newest first.
use Rattle.std.specs.Prelude.{◌≡◌, ◌≤◌, ℕ, List, []}
use Rattle.messages.specs.declared.node.Node.{Node}
use Rattle.messages.specs.declared.node.Node.TheVariants.{Server, Client, Mirror}
use Rattle.server_core.specs.Hearing.{FrameEntry as ServerEntry}
use Rattle.client_core.specs.Hearing.{FrameEntry as ClientEntry}
use Rattle.cells.specs.declared.entry.HistoryEntry.{HistoryEntry}
use Rattle.cells.specs.Replay.{Makes}
use Rattle.cells.specs.ServerRules.{rules as server_rules}
use Rattle.cells.specs.ClientRules.{rules as client_rules}
use Rattle.net_world.specs.Setup.{without_mirror}
use Rattle.net_world.specs.Trace.{opening_of, client_opening}

-- No server ran from this number on, and no mirror.
pub record EndAt (n : ℕ) (ran : Node → List HistoryEntry) : Type 0 where
  pub servers : (s : ℕ) → n ≤ s → ran (Server s) ≡ []
  pub mirror : ran Mirror ≡ []

-- Lists that the histories make, of n servers and their client, each opened over a blank note.
pub record Lists (n : ℕ) (ran : Node → List HistoryEntry) : Type 0 where
  pub servers : ℕ → List ServerEntry
  pub client : List ClientEntry
  pub servers_made : (s : ℕ) → Makes (server_rules (opening_of s)) (ran (Server s)) (servers s)
  pub client_made : Makes (client_rules (client_opening (without_mirror n))) (ran Client) client
