-- Each frame that was sent is readable: within its ranges, and short enough.
use Rattle.std.proofs.Common.{sym, subst, List}
use Rattle.std.specs.Prelude.{All}
use Rattle.messages.specs.FrameLaws.{IsReadable, FramesAreReadable}
use Rattle.messages.specs.PieceLaws.{ArePackets}
use Rattle.messages.proofs.ReadableLemmas.{all_readable}
use Rattle.net_world.specs.Setup.{Setup}
use Rattle.net_world.specs.Trace.{sent_packets}
use Rattle.net_world.specs.Frames.{FrameStep, frames_sent, trace_heard}
use Rattle.net_world.specs.FrameLaws.{FramesAreOfPackets}

pub sent_readable : FramesAreReadable → FramesAreOfPackets → (w : Setup) (t : List FrameStep) → ArePackets (sent_packets w (trace_heard w t))
    → All IsReadable (frames_sent w t)
sent_readable law frames w t are = subst (All IsReadable) (sym (frames w t)) (all_readable law (sent_packets w (trace_heard w t)) are)
