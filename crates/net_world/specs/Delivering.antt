-- Which frame a world finds.
use Rattle.std.specs.Prelude.{◌≡◌, ℕ, List, Some, None, slice_get, Result, Ok, Err}
use Rattle.fc_base.specs.declared.fault.Fault.{Fault}
use Rattle.fc_base.specs.declared.fault.Fault.TheVariants.{NoFrame, NoMemory}
use Rattle.messages.specs.declared.frame.Frame.{Frame}
use Rattle.net_world.specs.Setup.{Setup}
use Rattle.net_world.specs.Frames.{frames_sent}
use Rattle.net_world.specs.Changes.{Change, steps}

-- The frame of this number is found, or there is none, or memory has run out.
abbrev pub FindsFrame : Setup → List Change → ℕ → Result Frame Fault → Type 0
FindsFrame w past number (Ok f) = slice_get (frames_sent w (steps past)) number ≡ Some f
FindsFrame w past number (Err NoFrame) = slice_get (frames_sent w (steps past)) number ≡ None
FindsFrame w past number (Err NoMemory) = Unit {0}
FindsFrame w past number (Err _) = ⊥
