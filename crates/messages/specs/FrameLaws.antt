-- What the bytes of frames promise.
use Rattle.std.specs.Prelude.{◌≡◌, ◌≤◌, ℕ, List, [], ◌++◌, Some, All, IsTrue}
use Rattle.messages.specs.declared.limits.TheConstants.{CHUNK_LIMIT}
use Rattle.messages.specs.declared.frame.Frame.{Frame}
use Rattle.messages.specs.declared.frame.Frame.TheVariants.{Whole, Piece}
use Rattle.messages.specs.declared.packet.PacketParts.{PacketParts}
use Rattle.messages.specs.Bodies.{length_of}
use Rattle.messages.specs.Laws.{IsPacket, IsBytes, Says}
use Rattle.messages.specs.PieceRanges.{is_piece}
use Rattle.messages.specs.Pieces.{frames_of}
use Rattle.messages.specs.FramesOf.{spelled_frames, AreFew}
use Rattle.messages.specs.FrameBytes.{piece_spelling, frame_spelling, frame_at, frame_faults, IsShort}

-- Every frame is in its ranges.
abbrev pub IsFrame : Frame → Type 0
IsFrame (Whole p) = IsPacket p
IsFrame (Piece q) = IsTrue (is_piece q)

-- A frame is in its ranges, and short enough to be read.
pub record IsReadable (f : Frame) : Type 0 where
  pub in_range : IsFrame f
  pub is_short : IsShort f

-- The frames of each packet are readable, also the pieces of one that is cut.
abbrev pub FramesAreReadable : Type 0
FramesAreReadable = (p : PacketParts) → IsPacket p → All IsReadable (frames_of p)

-- A frame's spelling has no fault and says that frame.
abbrev pub FramesAreRead : Type 0
FramesAreRead = (f : Frame) → IsFrame f → IsShort f
    → (frame_faults (frame_spelling f) ≡ []) × (frame_at (frame_spelling f) ≡ Some f)

-- The bytes say this frame: as they say a packet that goes whole, or as the spelling of a piece in
-- its ranges.
abbrev pub SaysFrame : List ℕ → Frame → Type 0
SaysFrame bytes (Whole p) = Says bytes p × (length_of p.body ≤ CHUNK_LIMIT)
SaysFrame bytes (Piece q) = IsTrue (is_piece q) × (piece_spelling q ≡ bytes)

-- Bytes without a fault say a frame.
abbrev pub OnlyFramesAreRead : Type 0
OnlyFramesAreRead = (bytes : List ℕ) → IsBytes bytes → frame_faults bytes ≡ []
    → (f : Frame) × (frame_at bytes ≡ Some f) × SaysFrame bytes f

-- The frames of each packet are few.
abbrev pub FramesAreFew : Type 0
FramesAreFew = (p : PacketParts) → IsPacket p → AreFew p (spelled_frames p)

-- No frame's spelling begins another's.
abbrev pub NoFrameBeginsAnother : Type 0
NoFrameBeginsAnother =
    (f g : Frame) (more : List ℕ) → IsFrame f → IsFrame g
    → frame_spelling f ++ more ≡ frame_spelling g → (more ≡ []) × (f ≡ g)
