-- The bytes of the frames of a packet, and how many they are.
use Rattle.std.specs.Prelude.{◌≡◌, ℕ, ◌+◌, ◌*◌, ◌≤◌, List, [], ◌∷◌, length, map, slice_range, All, sum_by}
use Rattle.messages.specs.declared.limits.TheConstants.{MAX_FRAME, MAX_FRAMES, PIECE_HEAD}
use Rattle.messages.specs.declared.packet.PacketParts.{PacketParts}
use Rattle.messages.specs.declared.node.Node.{Node}
use Rattle.messages.specs.declared.piece.Tag.{Tag}
use Rattle.messages.specs.Bodies.{length_of}
use Rattle.messages.specs.Pieces.{cut_at, frames_of}
use Rattle.messages.specs.FrameBytes.{piece_spelling, frame_spelling}

-- The parts of bytes that lie one behind the other from a place on, and end at these places.
abbrev pub parts_between : ℕ → List ℕ → List ℕ → List (List ℕ)
parts_between start [] bytes = []
parts_between start (end ∷ ends) bytes = slice_range bytes start end ∷ parts_between end ends bytes

-- Places that never fall from a first one on, and end at a last one.
abbrev pub RiseTo : ℕ → List ℕ → ℕ → Type 0
RiseTo start [] last = start ≡ last
RiseTo start (end ∷ ends) last = (start ≤ end) × RiseTo end ends last

-- The bytes of the piece at a place.
abbrev pub spelled_piece : Node → Node → Tag → List ℕ → ℕ → List ℕ
spelled_piece from to tag bytes at = piece_spelling (cut_at from to tag bytes at)

-- The bytes of a packet's frames.
abbrev pub spelled_frames : PacketParts → List (List ℕ)
spelled_frames p = map frame_spelling (frames_of p)

-- At most 17 frames, of at most 1,073 bytes each, which together have at most 49 bytes each beyond
-- the body.
pub record AreFew (p : PacketParts) (frames : List (List ℕ)) : Type 0 where
  pub few : length frames ≤ MAX_FRAMES
  pub short : All (λ frame. length frame ≤ MAX_FRAME) frames
  pub total : sum_by (λ frame. length frame) frames ≤ length_of p.body + PIECE_HEAD * length frames
