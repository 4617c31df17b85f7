-- Where a claim holds: in each trace, in each world, and at each moment of a world.
use Rattle.std.specs.Prelude.{◌≡◌, ◌≤◌, List, ◌++◌, map, reverse}
use Rattle.fc_base.specs.declared.limits.TheConstants.{MAX_SERVERS}
use Rattle.net_world.specs.declared.config.Config.{Config}
use Rattle.net_world.specs.declared.event.WorldEvent.{WorldEvent}
use Rattle.net_world.specs.Setup.{Setup, setup_of}
use Rattle.net_world.specs.Trace.{Step, IsTrace}
use Rattle.net_world.specs.Frames.{FrameStep, IsFrameTrace, trace_heard}
use Rattle.net_world.specs.InRange.{FitsFrames}
use Rattle.net_world.specs.Happenings.{Happening}
use Rattle.net_world.specs.Changes.{Change, steps, trace}
use Rattle.net_world.specs.Events.{happening}
use Rattle.net_world.specs.World.{world}

-- The claim holds of each trace of a client with its servers.
abbrev pub OfEachTrace : (Setup → List Step → Type 0) → Type 0
OfEachTrace Claim = (w : Setup) (t : List Step) → IsTrace w t → Claim w t

-- The claim holds of each list of steps, whether or not what comes was sent.
abbrev pub OfEachList : (Setup → List Step → Type 0) → Type 0
OfEachList Claim = (w : Setup) (t : List Step) → Claim w t

-- The claim holds of each trace of frames in their ranges.
abbrev pub OfEachFrameTrace : (Setup → List FrameStep → Type 0) → Type 0
OfEachFrameTrace Claim =
    (w : Setup) (t : List FrameStep) → IsFrameTrace w t → FitsFrames w t → Claim w t

-- The claim holds of each world of at most 8 servers.
abbrev pub OfEachWorld : (Setup → List Change → Type 0) → Type 0
OfEachWorld Claim =
    (w : Setup) (events : List Happening) → w.servers ≤ MAX_SERVERS → Claim w (world w events)

-- The claim holds of the trace that is heard in a trace of frames.
abbrev pub OfTheHeard : (Setup → List Step → Type 0) → Setup → List FrameStep → Type 0
OfTheHeard Claim w t = Claim w (trace_heard w t)

-- The claim holds of the frames of a world.
abbrev pub OfItsFrames : (Setup → List FrameStep → Type 0) → Setup → List Change → Type 0
OfItsFrames Claim w past = Claim w (steps past)

-- The claim holds of the trace of a world.
abbrev pub OfItsTrace : (Setup → List Step → Type 0) → Setup → List Change → Type 0
OfItsTrace Claim w past = Claim w (trace w past)

-- What has happened once these events came, the first of them first: it is told newest first.
abbrev pub happenings_of : List WorldEvent → List Happening
happenings_of events = map happening (reverse events)

-- The world in which they came.
abbrev pub world_of : Config → List WorldEvent → List Change
world_of config events = world (setup_of config) (happenings_of events)

-- The claim holds of the world at each moment of the list: behind each event, and before the first.
abbrev pub AtEachMoment : (Setup → List Change → Type 0) → Config → List WorldEvent → Type 0
AtEachMoment Claim config events =
    (newer older : List Happening) → happenings_of events ≡ newer ++ older →
    Claim (setup_of config) (world (setup_of config) older)
