-- What has changed in a world: a list, the newest first.
use Rattle.std.specs.Prelude.{ℕ, List, [], ◌∷◌}
use Rattle.net_world.specs.Setup.{Setup}
use Rattle.net_world.specs.Trace.{Step}
use Rattle.net_world.specs.Frames.{FrameStep, trace_heard}

-- A step of a node; sectors of an open write have landed, by a mask; a sector of a file has changed
-- by itself.
pub data Change : Type 0 where
  Met : FrameStep → Change
  Landed : ℕ → ℕ → ℕ → ℕ → Change  -- server, job, write, mask
  Rotted : ℕ → ℕ → ℕ → List ℕ → Change  -- server, job, sector, bytes

-- The steps of the nodes.
abbrev pub steps : List Change → List FrameStep
steps [] = []
steps (Met step ∷ past) = step ∷ steps past
steps (Landed s j k mask ∷ past) = steps past
steps (Rotted s j sector bytes ∷ past) = steps past

-- The trace of packets that they say.
abbrev pub trace : Setup → List Change → List Step
trace w past = trace_heard w (steps past)
