use Rattle.std.proofs.Common.{◌≡◌, List, Some, map}
use Rattle.messages.specs.declared.frame.Frame.{Frame}
use Rattle.messages.specs.FrameBytes.{frame_at}
use Rattle.uses.proofs.CameLemmas.{SoFar}
use Rattle.uses.proofs.packets.first_packet.Given as goal

-- What has come together is that of the frames that came before, and they gave nothing.
abbrev pub invariant-loop-index : goal.invariant-loop-index
invariant-loop-index l = (came : List Frame) → map frame_at l.frames ≡ map Some came → SoFar came l.index l.assembly
