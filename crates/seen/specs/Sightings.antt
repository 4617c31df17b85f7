-- What the bytes of frames show: packets that were sent, packets that came, and verify states.
use Rattle.std.specs.Prelude.{◌≡◌, ℕ, true, List, ◌∷◌, ◌++◌, Some, is_ok, slice_get, Contains}
use Rattle.verify_state.specs.State.{State}
use Rattle.messages.specs.declared.body.Body.{Body}
use Rattle.messages.specs.declared.node.Node.TheVariants.{Server, Client}
use Rattle.messages.specs.declared.packet.PacketParts.{PacketParts}
use Rattle.messages.specs.Packets.{packet_at}
use Rattle.net_world.specs.Happenings.{Deliver}
use Rattle.net_world.specs.Holders.{carried_state}
use Rattle.seen.specs.Observations.{Observation, frames_in}

-- A packet of a server to the client, and one of the client to a server.
abbrev pub from_server : ℕ → Body → PacketParts
from_server server body = record { from = Server server; to = Client; body = body }

-- A packet of the client to a server.
abbrev pub to_server : ℕ → Body → PacketParts
to_server server body = record { from = Client; to = Server server; body = body }

-- The bytes of one of these frames say the packet.
pub record IsAmong (frames : List (List ℕ)) (p : PacketParts) : Type 0 where
  pub bytes : List ℕ
  pub there : Contains frames bytes
  pub says : packet_at bytes ≡ Some p

-- The packet comes to its node: a frame that says it is delivered, and isn't refused.
pub record Comes (past : List Observation) (o : Observation) (p : PacketParts) : Type 0 where
  pub frame : ℕ
  pub event : o.event ≡ Deliver frame
  pub bytes : List ℕ
  pub there : slice_get (frames_in past) frame ≡ Some bytes
  pub says : packet_at bytes ≡ Some p
  pub accepted : is_ok o.told ≡ true

-- A state is seen where a frame that was sent carries it, or where the client's note showed it at
-- some time.
pub data IsSeen (seen : List Observation) (state : State) : Type 0 where
  InFrame : (p : PacketParts) → IsAmong (frames_in seen) p → carried_state p.body ≡ Some state
      → IsSeen seen state
  InNote : (newer older : List Observation) (o : Observation) → seen ≡ newer ++ o ∷ older
      → o.saved state.key ≡ Some state → IsSeen seen state
