-- What comes to a client: what its caller asks, and packets.
use Rattle.std.specs.Prelude.{ℕ, List}
use Rattle.messages.specs.declared.refusal.Act.{Act}
use Rattle.messages.specs.declared.packet.PacketParts.{PacketParts}
use Rattle.messages.specs.declared.frame.Frame.{Frame}

-- The client is asked to begin a run with this job file; to trigger the verify states of a run, and
-- then this act; to issue no more writes in a run; to check the files of a run by this job file; or
-- to ask again for all that isn't answered. Or it is delivered what a P is.
pub data Input (P : Type 0) : Type 0 where
  Begin : List ℕ → Input P
  Trigger : ℕ → Act → Input P
  Stop : ℕ → Input P
  Verify : ℕ → List ℕ → Input P
  Deliver : P → Input P
  Tick : Input P

-- What comes to it as packets are whole.
abbrev pub PacketInput : Type 0
PacketInput = Input PacketParts

-- What comes to it over a network that carries frames.
abbrev pub FrameInput : Type 0
FrameInput = Input Frame
