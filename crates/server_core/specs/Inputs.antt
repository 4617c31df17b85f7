-- What comes to a server, by how its packets come.
use Rattle.messages.specs.declared.packet.PacketParts.{PacketParts}
use Rattle.messages.specs.declared.frame.Frame.{Frame}
use Rattle.server_core.specs.declared.input.Input.{Input}

-- What comes to it as packets are whole.
abbrev pub PacketInput : Type 0
PacketInput = Input PacketParts

-- What comes to it over a network that carries frames.
abbrev pub FrameInput : Type 0
FrameInput = Input Frame
