-- The frames whose lines are written.
use Rattle.std.specs.Prelude.{◌≡◌, ℕ, List, length, map, take, drop, Contains}
use Rattle.messages.specs.declared.frame.Frame.{Frame}
use Rattle.messages.specs.FrameBytes.{frame_spelling}
use Rattle.messages.specs.FrameLaws.{IsFrame}

-- The bytes of these frames stand among those that are kept, this many from this place on.
pub record AreBytesOf (frames : List Frame) (first count : ℕ) (kept : List (List ℕ)) : Type 0 where
  pub each : (f : Frame) → Contains frames f → IsFrame f
  pub number : length frames ≡ count
  pub bytes : take count (drop first kept) ≡ map frame_spelling frames
