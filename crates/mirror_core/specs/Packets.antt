-- The packets that a mirror sends, and their frames.
use Rattle.std.specs.Prelude.{if◌then◌else◌, ℕ, List, [], ◌∷◌, ◌++◌, map, Option, Some, None}
use Rattle.std.specs.List.{flat_map}
use Rattle.verify_state.specs.State.{State}
use Rattle.messages.specs.declared.packet.PacketParts.{PacketParts}
use Rattle.messages.specs.declared.body.Body.{Body}
use Rattle.messages.specs.declared.body.Body.TheVariants as bodies
use Rattle.messages.specs.declared.node.Node.TheVariants as nodes
use Rattle.messages.specs.FramesOf.{spelled_frames}
use Rattle.mirror_core.specs.declared.note.MirrorNote.{MirrorNote}
use Rattle.mirror_core.specs.declared.request.Request.{Request}
use Rattle.mirror_core.specs.declared.request.Request.TheVariants.{Copy, Fetch}
use Rattle.mirror_core.specs.History.{Entry, Met, Cut, Restart}
use Rattle.mirror_core.specs.Requests.{request_in}
use Rattle.mirror_core.specs.Words.{words_noted, is_answered}

-- A packet of the mirror to the client.
abbrev pub to_client : Body → PacketParts
to_client body = record { from = nodes.Mirror; to = nodes.Client; body = body }

-- A copy of a state.
abbrev pub copy_of : State → PacketParts
copy_of state = to_client (bodies.Copy state)

-- What is replied to the client, by what was kept before: that the state of a key is kept; or that
-- the generation is granted, and then each kept state, in the order in which they came.
abbrev pub replies : MirrorNote → Request → List PacketParts
replies n (Copy state) =
    to_client (bodies.CopyOk state.key.run state.key.server state.key.job) ∷ []
replies n (Fetch generation) = to_client (bodies.Granted generation) ∷ map copy_of n.kept

-- What an answered frame sends that asks for this.
abbrev pub packets_for : MirrorNote → Option Request → List PacketParts
packets_for n None = []
packets_for n (Some request) = replies n request

-- The packets that an event sends.
abbrev pub packets : MirrorNote → List Entry → Entry → List PacketParts
packets opening past (Met f left) =
    if is_answered opening past f left then packets_for (words_noted opening past) (request_in f)
    else []
packets opening past Cut = []
packets opening past Restart = []

-- All packets that were ever sent, the oldest first.
abbrev pub sent_packets : MirrorNote → List Entry → List PacketParts
sent_packets opening [] = []
sent_packets opening (entry ∷ past) = sent_packets opening past ++ packets opening past entry

-- The bytes of the frames that carry these packets, in their order.
abbrev pub frame_bytes : List PacketParts → List (List ℕ)
frame_bytes packets = flat_map spelled_frames packets
