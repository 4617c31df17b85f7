-- Where a server's packets go.
use Rattle.std.specs.Prelude.{◌≡◌, ℕ, List, Contains, IsTrue}
use Rattle.messages.specs.declared.node.Node.TheVariants.{Server, Client}
use Rattle.messages.specs.declared.packet.PacketParts.{PacketParts}
use Rattle.messages.specs.Bodies.{kind_of}
use Rattle.messages.specs.Kinds.{is_of_server}
use Rattle.server_core.specs.History.{Opening, Entry}
use Rattle.server_core.specs.Answers.{packets}

-- A packet of this server to the client, of a kind that servers send.
pub record GoesToClient (server : ℕ) (p : PacketParts) : Type 0 where
  pub ends : p ≡ record { from = Server server; to = Client; body = p.body }
  pub kind : IsTrue (is_of_server (kind_of p.body))

-- What a server sends goes to the client in its own name, and is of a kind that servers send.
abbrev pub PacketsGoToClient : Type 0
PacketsGoToClient =
    (opening : Opening) (past : List Entry) (e : Entry) (p : PacketParts) →
    Contains (packets opening past e) p → GoesToClient opening.me p
