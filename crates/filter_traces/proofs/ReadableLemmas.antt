-- What was sent in a trace is read from its bytes as it was.
use Rattle.std.proofs.Common.{List}
use Rattle.std.specs.Prelude.{All}
use Rattle.messages.specs.FrameLaws.{FramesAreRead, FramesAreReadable, IsReadable}
use Rattle.net_world.specs.Setup.{Setup}
use Rattle.net_world.specs.Frames.{FrameStep, frames_sent, trace_heard, IsFrameTrace}
use Rattle.net_world.specs.FrameLaws.{FramesAreOfPackets, NodesHearTheirOwn, OnlySentIsHeard}
use Rattle.net_world.specs.InRange.{FitsFrames, SentAreInRange}
use Rattle.net_world.proofs.FrameRangeLemmas.{sent_readable}
use Rattle.net_world.proofs.OnlySentLemmas.{heard_fits}

-- The laws on which this rests.
pub record Laws : Type 0 where
  pub only_sent : OnlySentIsHeard
  pub in_range : SentAreInRange
  pub of_packets : FramesAreOfPackets
  pub own : NodesHearTheirOwn
  pub readable : FramesAreReadable
  pub read : FramesAreRead

pub trace_readable : Laws → (w : Setup) (t : List FrameStep) → IsFrameTrace w t → FitsFrames w t → All IsReadable (frames_sent w t)
trace_readable laws w t legal fits =
    let are = laws.in_range w (trace_heard w t) (laws.only_sent w t legal fits) (heard_fits w t fits) in
    sent_readable laws.readable laws.of_packets w t are
