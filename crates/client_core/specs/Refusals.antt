-- Why a client refuses a call, by what its note says.
use Rattle.std.specs.Prelude.{ℕ, ◌+◌, ◌*◌, ◌^◌, Bool, true, false, ◌&&◌, ◌||◌, ◌==◌, not, nat_lt, nat_le, List, [], ◌++◌, Option, slice_get}
use Rattle.fc_base.specs.declared.fault.Fault.{Fault}
use Rattle.fc_base.specs.declared.fault.Fault.TheVariants.{JobTooLong, Down, Misdirected, NoSuchRun, NumbersSpent}
use Rattle.fc_base.specs.Faults.{when}
use Rattle.messages.specs.declared.packet.PacketParts.{PacketParts}
use Rattle.messages.specs.declared.body.Body.{Body}
use Rattle.messages.specs.declared.body.Body.TheVariants as bodies
use Rattle.messages.specs.declared.node.Node.{Node}
use Rattle.messages.specs.declared.node.Node.TheVariants as nodes
use Rattle.messages.specs.Nodes.{node_number, is_client, is_mirror}
use Rattle.messages.specs.Kinds.{is_of_server, is_of_mirror}
use Rattle.messages.specs.Bodies.{kind_of}
use Rattle.messages.specs.Ranges.{is_text}
use Rattle.client_core.specs.Inputs.{PacketInput, Begin, Trigger, Stop, Verify, Deliver, Tick}
pub use Rattle.verify_state.specs.Refusals.{differs, lacks_room, faults_of_state}
use Rattle.client_core.specs.declared.note.ClientNote.{ClientNote}
use Rattle.client_core.specs.declared.peers.Peers.{Peers}

-- The node is one of so many servers.
abbrev pub is_server_of : ℕ → Node → Bool
is_server_of servers (nodes.Server s) = nat_lt s servers
is_server_of servers nodes.Client = false
is_server_of servers nodes.Mirror = false

-- A server sends no states but its own.
abbrev pub is_own : ℕ → Body → Bool
is_own server (bodies.State jobs state) = state.key.server == server
is_own server _ = true

-- The packet is from one of so many servers, of a kind that servers send, and has no state but the
-- sender's.
unfoldable pub is_from_server : ℕ → PacketParts → Bool
is_from_server servers p =
    is_server_of servers p.from
    && (is_of_server (kind_of p.body) && is_own (node_number p.from) p.body)

-- There is a mirror, and the packet is from it, of a kind that it sends.
unfoldable pub is_from_mirror : Bool → PacketParts → Bool
is_from_mirror mirror p = mirror && (is_mirror p.from && is_of_mirror (kind_of p.body))

-- The packet is for the client, and from one of its servers or from the mirror.
unfoldable pub is_for_client : Peers → PacketParts → Bool
is_for_client peers p =
    is_client p.to && (is_from_server peers.servers p || is_from_mirror peers.mirror p)

-- The run was begun: runs count from 1.
unfoldable pub is_begun : ClientNote → ℕ → Bool
is_begun n run = nat_le 1 run && nat_le run n.runs

-- With a mirror, or in a generation, the number is below those of the next generation.
unfoldable pub is_of_generation : Bool → ℕ → ℕ → Bool
is_of_generation mirror generation number =
    not (mirror || nat_lt 0 generation) || nat_lt number ((generation + 1) * 2 ^ 32)

-- A client that is of no generation needs no grant of it.
unfoldable pub is_free_to_number : Bool → ℕ → Bool
is_free_to_number granted generation = (generation == 0) || granted

-- Above the numbers that were used there is one more of eight bytes, which is of the generation;
-- and this was granted.
unfoldable pub has_next : Peers → ℕ → ℕ → Bool
has_next peers generation used =
    nat_lt (used + 1) (2 ^ 64)
    && (is_of_generation peers.mirror generation (used + 1)
    && is_free_to_number peers.granted generation)

-- Why what a server or the mirror says is refused.
abbrev pub faults_of_body : ClientNote → Body → List Fault
faults_of_body n (bodies.State jobs state) = faults_of_state n.kept state
faults_of_body n (bodies.Copy state) = faults_of_state n.kept state
faults_of_body n _ = []

-- Why a call is refused by a client that is on, in the order in which it is told.
abbrev pub faults_of : Peers → ClientNote → PacketInput → List Fault
faults_of peers n (Begin text) =
    when (not (is_text text)) JobTooLong
    ++ when (not (has_next peers n.generation n.runs)) NumbersSpent
faults_of peers n (Trigger run act) = when (not (is_begun n run)) NoSuchRun
faults_of peers n (Stop run) = when (not (is_begun n run)) NoSuchRun
faults_of peers n (Verify run text) =
    when (not (is_begun n run)) NoSuchRun
    ++ (when (not (is_text text)) JobTooLong
    ++ when (not (has_next peers n.generation n.attempts)) NumbersSpent)
faults_of peers n (Deliver p) =
    when (not (is_for_client peers p)) Misdirected ++ faults_of_body n p.body
faults_of peers n Tick = []

-- The first reason: a client that is off or down refuses every call.
abbrev pub refusal_by : Bool → Peers → ClientNote → PacketInput → Option Fault
refusal_by on peers n c = slice_get (when (not on) Down ++ faults_of peers n c) 0
