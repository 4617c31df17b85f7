-- The one list that is made of all that ran, and the orders that name it. All lists are newest
-- first.
use Rattle.std.specs.Prelude.{◌≡◌, ℕ, List, map}
use Rattle.messages.specs.declared.node.Node.{Node}
use Rattle.messages.specs.declared.node.Node.TheVariants.{Server, Client, Mirror}
use Rattle.messages.specs.FrameBytes.{frame_spelling}
use Rattle.server_core.specs.Hearing.{FrameEntry as ServerEntry, coming_of as server_coming}
use Rattle.client_core.specs.Hearing.{FrameEntry as ClientEntry, coming_of as client_coming}
use Rattle.cells.specs.declared.entry.HistoryEntry.{HistoryEntry}
use Rattle.messages.specs.Network.{Network}
use Rattle.net_world.specs.Setup.{without_mirror}
use Rattle.net_world.specs.Frames.{FrameStep, OfServer, OfClient, OfMirror, of_server, of_client, frames_sent, IsFrameTrace}
use Rattle.net_world.specs.InRange.{FitsFrames}
use Rattle.assembly.specs.declared.place.Place.{Place}
use Rattle.assembly.specs.Lists.{Lists}
use Rattle.assembly.specs.Orders.{standing_places, places_of}

-- One trace of frames, in which just this happens to each server and to the client, and just these
-- frames are sent.
pub record IsAssembled (n : ℕ) (frames : List (List ℕ)) (servers : ℕ → List ServerEntry)
    (client : List ClientEntry) (trace : List FrameStep) : Type 0 where
  pub legal : IsFrameTrace (without_mirror n) trace
  pub fits : FitsFrames (without_mirror n) trace
  pub servers_are : (s : ℕ) → of_server s trace ≡ map server_coming (servers s)
  pub client_is : of_client (without_mirror n) trace ≡ map client_coming client
  pub frames_are : map frame_spelling (frames_sent (without_mirror n) trace) ≡ frames

-- The node at which a step is made.
abbrev pub node_of : FrameStep → Node
node_of (OfServer s c) = Server s
node_of (OfClient c) = Client
node_of (OfMirror e) = Mirror

-- An order names a trace: it has the nodes of the steps, in their order, and of each node the
-- places of the events that stand in its list.
pub record Names (ran : Node → List HistoryEntry) (order : List Place)
    (trace : List FrameStep) : Type 0 where
  pub nodes_are : map (λ place. place.node) order ≡ map node_of trace
  pub places_are : (node : Node) → places_of node order ≡ standing_places (ran node)

-- Whatever lists the histories make, the order names one trace of just these, with just the
-- network's frames.
abbrev pub IsOrder : ℕ → Network → (Node → List HistoryEntry) → List Place → Type 0
IsOrder n net ran order =
    (lists : Lists n ran) →
    (trace : List FrameStep) × IsAssembled n net.frames lists.servers lists.client trace
    × Names ran order trace
