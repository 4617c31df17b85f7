-- The steps of a client, its servers and its mirror in one list, the newest first.
use Rattle.std.specs.Prelude.{◌≡◌, ℕ, ◌==◌, nat_lt, Bool, true, false, not, ◌&&◌, if◌then◌else◌, List, [], ◌∷◌, ◌++◌, Contains, IsTrue}
use Rattle.std.specs.List.{AllByRecursion}
use Rattle.fc_base.specs.Counted.{has}
use Rattle.messages.specs.declared.packet.PacketParts.{PacketParts}
use Rattle.messages.specs.declared.node.Node.{Node}
use Rattle.messages.specs.declared.node.Node.TheVariants.{Server, Client, Mirror}
use Rattle.messages.specs.Ranges.{is_generation}
use Rattle.disk_model.specs.declared.save_outcome.SaveOutcome.TheVariants.{Saved}
use Rattle.server_core.specs.History as server
use Rattle.server_core.specs.Heard.{heard_packets}
use Rattle.server_core.specs.Answers as servers
use Rattle.client_core.specs.History as client
use Rattle.client_core.specs.Note.{blank}
use Rattle.client_core.specs.Ranges.{packet_in}
use Rattle.client_core.specs.Words.{words_noted}
use Rattle.client_core.specs.Numbering.{generations}
use Rattle.client_core.specs.Packets as clients
use Rattle.mirror_core.specs.declared.note.MirrorNote.{MirrorNote}
use Rattle.mirror_core.specs.Note as mirror_note
use Rattle.mirror_core.specs.History as mirror
use Rattle.mirror_core.specs.Laws as mirror_laws
use Rattle.mirror_core.specs.Packets as mirrors
use Rattle.net_world.specs.Setup.{Setup}

-- A step: something comes to the server with this number, to the client, or to the mirror.
pub data Step : Type 0 where
  AtServer : ℕ → server.Entry → Step
  AtClient : client.Entry → Step
  AtMirror : mirror.Entry → Step

-- Server s opens on an empty note.
abbrev pub opening_of : ℕ → server.Opening
opening_of s = record { me = s; boot = 0; last = 0 }

-- The client of a world opens on an empty note.
abbrev pub client_opening : Setup → client.Opening
client_opening w = record { servers = w.servers; noted = blank }

-- The mirror of a world opens on an empty note.
abbrev pub mirror_opening : MirrorNote
mirror_opening = mirror_note.blank

-- The list of server s: its first restart, and what came to it since.
abbrev pub of_server : ℕ → List Step → List server.Entry
of_server s [] = server.Restart Saved ∷ []
of_server s (AtServer r e ∷ past) = if r == s then e ∷ of_server s past else of_server s past
of_server s (AtClient e ∷ past) = of_server s past
of_server s (AtMirror e ∷ past) = of_server s past

-- What a client begins with: a restart, or with a mirror a renewal with generation 1.
abbrev pub first_entry : Bool → client.Entry
first_entry true = client.Renew 1 Saved
first_entry false = client.Restart false

-- The list of the client: what it begins with, and what came to it since.
abbrev pub of_client : Setup → List Step → List client.Entry
of_client w [] = first_entry w.mirror ∷ []
of_client w (AtServer s e ∷ past) = of_client w past
of_client w (AtClient e ∷ past) = e ∷ of_client w past
of_client w (AtMirror e ∷ past) = of_client w past

-- The list of the mirror: its first restart, and what came to it since.
abbrev pub of_mirror : List Step → List mirror.Entry
of_mirror [] = mirror.Restart ∷ []
of_mirror (AtServer s e ∷ past) = of_mirror past
of_mirror (AtClient e ∷ past) = of_mirror past
of_mirror (AtMirror e ∷ past) = e ∷ of_mirror past

-- The packets that a step sends.
abbrev pub packets_of : Setup → List Step → Step → List PacketParts
packets_of w past (AtServer s e) = servers.packets (opening_of s) (of_server s past) e
packets_of w past (AtClient e) = clients.packets (client_opening w) (of_client w past) e
packets_of w past (AtMirror e) = mirrors.packets mirror_opening (of_mirror past) e

-- Every packet that was ever sent, the oldest first.
unfoldable pub sent_packets : Setup → List Step → List PacketParts
sent_packets w [] = []
sent_packets w (step ∷ past) = sent_packets w past ++ packets_of w past step

-- The packet that a step takes, if it takes one.
abbrev pub taken_by : Step → List PacketParts
taken_by (AtServer s e) = heard_packets (e ∷ [])
taken_by (AtClient e) = packet_in e
taken_by (AtMirror e) = mirror_laws.packet_in e

-- The node at which a step is made.
abbrev pub node_of : Step → Node
node_of (AtServer s e) = Server s
node_of (AtClient e) = Client
node_of (AtMirror e) = Mirror

-- The packet is among those that were sent, and goes to this node.
abbrev pub WasSentTo : List PacketParts → Node → PacketParts → Type 0
WasSentTo packets node p = Contains packets p × (p.to ≡ node)

-- What comes to a client that has no mirror: it is restarted without one, and its note isn't lost.
abbrev pub is_alone : client.Entry → Bool
is_alone (client.Restart mirror) = not mirror
is_alone (client.Renew g left) = false
is_alone client.Lose = false
is_alone _ = true

-- What comes to a client that has one: it is restarted with the mirror, over a note of a
-- generation, and no generation is handed in twice.
abbrev pub is_with_mirror : client.Opening → List client.Entry → client.Entry → Bool
is_with_mirror opening past (client.Restart mirror) =
    mirror && nat_lt 0 (words_noted opening past).generation
is_with_mirror opening past (client.Renew g left) =
    is_generation g && not (has (generations past) g)
is_with_mirror opening past _ = true

-- The step is one of a world that is made so: the client is started with the mirror or without one,
-- and nothing comes to a mirror that isn't there.
abbrev pub is_of_setup : Setup → List Step → Step → Bool
is_of_setup w past (AtServer s e) = true
is_of_setup w past (AtClient e) =
    if w.mirror then is_with_mirror (client_opening w) (of_client w past) e else is_alone e
is_of_setup w past (AtMirror e) = w.mirror

-- A trace: each packet that a node takes was sent to it earlier, and each step is one of the setup.
abbrev pub IsTrace : Setup → List Step → Type 0
IsTrace w [] = Unit {0}
IsTrace w (step ∷ past) =
    IsTrace w past × AllByRecursion (WasSentTo (sent_packets w past) (node_of step)) (taken_by step)
    × IsTrue (is_of_setup w past step)
