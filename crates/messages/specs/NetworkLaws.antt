-- What holds of frames, for who notes them.
use Rattle.std.specs.Prelude.{All}
use Rattle.messages.specs.declared.packet.PacketParts.{PacketParts}
use Rattle.messages.specs.Laws.{IsPacket}
use Rattle.messages.specs.FramesOf.{spelled_frames}
use Rattle.messages.specs.Network.{IsSpelled}

-- The frames of a packet in its ranges are spelled.
abbrev pub FramesAreSpelled : Type 0
FramesAreSpelled = (p : PacketParts) → IsPacket p → All IsSpelled (spelled_frames p)
