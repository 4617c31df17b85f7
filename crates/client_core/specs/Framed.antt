-- The frames of what a client says.
use Rattle.std.specs.Prelude.{ℕ, List}
use Rattle.std.specs.List.{flat_map}
use Rattle.messages.specs.declared.packet.PacketParts.{PacketParts}
use Rattle.messages.specs.FramesOf.{spelled_frames}

-- The bytes of the frames that carry these packets, in their order.
abbrev pub frame_bytes : List PacketParts → List (List ℕ)
frame_bytes packets = flat_map spelled_frames packets
