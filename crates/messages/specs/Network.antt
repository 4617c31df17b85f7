-- The frames that were ever sent, and the journal of who took and sent which.
use Rattle.std.specs.Prelude.{◌≡◌, ◌≤◌, ℕ, zero, suc, List, [], ◌∷◌, Option, Some, None}
use Rattle.messages.specs.declared.node.Node.{Node}
use Rattle.messages.specs.declared.frame.Frame.{Frame}
use Rattle.messages.specs.FrameBytes.{frame_spelling, IsShort}
use Rattle.messages.specs.FrameLaws.{IsFrame}
use Rattle.messages.specs.declared.line.Line.{Line}

-- All frames that were sent, the oldest first, and the journal, the newest entry first.
pub record Network : Type 0 where
  pub frames : List (List ℕ)
  pub journal : List Line

-- A network in which nothing was sent.
abbrev pub empty : Network
empty = record { frames = []; journal = [] }

-- The journal's entry of an event that took or sent frames, and none of one that did neither.
abbrev pub line_of : Node → ℕ → Option ℕ → ℕ → List Line
line_of node at None zero = []
line_of node at None (suc n) = record { node = node; at = at; taken = None; sent = suc n } ∷ []
line_of node at (Some i) n = record { node = node; at = at; taken = Some i; sent = n } ∷ []

-- For how many more frames, bytes and entries of the journal there is room.
pub record Room : Type 0 where
  pub frames : ℕ
  pub bytes : ℕ
  pub lines : ℕ

-- There is room for an event that sends so many frames, of so many bytes together.
pub record HasRoom (room : Room) (frames bytes : ℕ) : Type 0 where
  pub frames_fit : frames ≤ room.frames
  pub bytes_fit : bytes ≤ room.bytes
  pub line_fits : 1 ≤ room.lines

-- What contracts see of a hub: its network, and its room.
pub record Held : Type 0 where
  pub net : Network
  pub room : Room

-- The bytes are those of a frame in its ranges, short enough to be read.
pub record IsSpelled (bytes : List ℕ) : Type 0 where
  pub frame : Frame
  pub in_range : IsFrame frame
  pub is_short : IsShort frame
  pub spelled : frame_spelling frame ≡ bytes
