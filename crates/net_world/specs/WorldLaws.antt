-- What holds of every world.
use Rattle.std.specs.Prelude.{◌≡◌, ◌≤◌, List, [], Some, Contains}
use Rattle.fc_base.specs.declared.limits.TheConstants.{MAX_SERVERS}
use Rattle.messages.specs.declared.frame.Frame.{Frame}
use Rattle.messages.specs.FrameBytes.{frame_at, frame_faults, frame_spelling, IsShort}
use Rattle.messages.specs.FrameLaws.{IsFrame}
use Rattle.net_world.specs.Setup.{Setup}
use Rattle.net_world.specs.Happenings.{Happening}
use Rattle.net_world.specs.Trace.{IsTrace}
use Rattle.net_world.specs.Frames.{IsFrameTrace, frames_sent}
use Rattle.net_world.specs.Changes.{steps, trace}
use Rattle.net_world.specs.World.{world}

-- The steps of the nodes of a world are a trace of frames.
abbrev pub EachWorldIsAFrameTrace : Type 0
EachWorldIsAFrameTrace =
    (w : Setup) (events : List Happening) → IsFrameTrace w (steps (world w events))

-- What the nodes of a world hear is a trace, where the world has at most 8 servers.
abbrev pub EachWorldIsATrace : Type 0
EachWorldIsATrace = (w : Setup) (events : List Happening) → w.servers ≤ MAX_SERVERS
    → IsTrace w (trace w (world w events))

-- Each frame that was sent in a world is in its ranges, and short enough to be read.
abbrev pub SentAreFrames : Type 0
SentAreFrames =
    (w : Setup) (events : List Happening) (f : Frame) →
    w.servers ≤ MAX_SERVERS → Contains (frames_sent w (steps (world w events))) f
    → IsFrame f × IsShort f

-- A frame's bytes have no fault, and say that frame.
abbrev pub IsReadBack : Frame → Type 0
IsReadBack f = (frame_faults (frame_spelling f) ≡ []) × (frame_at (frame_spelling f) ≡ Some f)

-- Each frame that was sent in a world is read back from its bytes.
abbrev pub SentFramesAreRead : Type 0
SentFramesAreRead =
    (w : Setup) (events : List Happening) (f : Frame) →
    w.servers ≤ MAX_SERVERS → Contains (frames_sent w (steps (world w events))) f → IsReadBack f
