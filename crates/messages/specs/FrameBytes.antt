-- The one spelling of a frame, and what the bytes of a frame say.
use Rattle.std.specs.Prelude.{◌≡◌, ◌⊎◌, ℕ, ◌+◌, ◌≤◌, Bool, ◌==◌, nat_le, is_none, is_some, if◌then◌else◌, List, []}
use Rattle.std.specs.Prelude.{◌∷◌, ◌++◌, length, drop, slice_index, slice_get, Option, Some, None, Result, Ok, Err}
use Rattle.std.specs.Option.{option_map, option_and_then}
use Rattle.std.specs.Int.{Width, w8, w32, w64}
use Rattle.fc_base.specs.declared.fault.Fault.{Fault}
use Rattle.fc_base.specs.declared.fault.Fault.TheVariants.{FrameBadField, FrameNoMemory}
use Rattle.fc_base.specs.Faults.{when}
use Rattle.messages.specs.declared.kind.PacketKind.{PacketKind}
use Rattle.messages.specs.declared.node.Node.{Node}
use Rattle.messages.specs.declared.piece.PieceParts.{PieceParts}
use Rattle.messages.specs.declared.frame.Frame.{Frame}
use Rattle.messages.specs.declared.frame.Frame.TheVariants.{Whole, Piece}
use Rattle.messages.specs.declared.frame.FrameKind.{FrameKind}
use Rattle.messages.specs.declared.frame.FrameKind.TheVariants as sorts
use Rattle.messages.specs.Kinds.{number_of, kind_numbered}
use Rattle.messages.specs.Nodes.{node_number, node_numbered}
use Rattle.fc_base.specs.Layouts.{spelled, numbers}
use Rattle.messages.specs.declared.limits.TheConstants.{CHUNK_LIMIT, FRAME_LIMIT}
use Rattle.messages.specs.Bodies.{body_at, length_of}
use Rattle.messages.specs.Packets.{header, header_at, header_faults, spelling}
use Rattle.messages.specs.PieceRanges.{is_piece}

-- How wide the numbers of a piece are: the kind of the whole, the run, the attempt, the server, the
-- job, the length of the whole body, and the place.
abbrev pub piece_layout : List Width
piece_layout = w8 ∷ w64 ∷ w64 ∷ w32 ∷ w32 ∷ w32 ∷ w32 ∷ []

-- The numbers of a piece: its tag, and the place of its bytes.
abbrev pub piece_numbers : PieceParts → List ℕ
piece_numbers q = number_of q.tag.whole ∷ q.tag.run ∷ q.tag.number ∷ q.tag.server ∷ q.tag.job
    ∷ q.tag.length ∷ q.at ∷ []

-- A piece's header: the letters FC, version 1, kind 17, from, to, and how many bytes follow.
abbrev pub piece_header : PieceParts → ℕ → List ℕ
piece_header q len =
    spelled header (70 ∷ 67 ∷ 1 ∷ 17 ∷ node_number q.from ∷ node_number q.to ∷ len ∷ [])

-- The bytes of a piece: its header, its numbers, and its part of the body.
abbrev pub piece_spelling : PieceParts → List ℕ
piece_spelling q =
    piece_header q (33 + length q.bytes) ++ (spelled piece_layout (piece_numbers q) ++ q.bytes)

-- The bytes of a frame.
abbrev pub frame_spelling : Frame → List ℕ
frame_spelling (Whole p) = spelling p
frame_spelling (Piece q) = piece_spelling q

-- A packet that goes whole has a body of at most 1,024 bytes.
abbrev pub IsShort : Frame → Type 0
IsShort (Whole p) = length_of p.body ≤ CHUNK_LIMIT
IsShort (Piece q) = Unit {0}

-- The number of a piece is 17.
abbrev pub sort_numbered : ℕ → Option FrameKind
sort_numbered n = if n == 17 then Some sorts.Piece else option_map sorts.Packet (kind_numbered n)

-- The number of a kind of frame.
abbrev pub is_frame_kind : ℕ → Bool
is_frame_kind n = is_some (sort_numbered n)

-- The most bytes behind a frame's header.
abbrev pub frame_limit : ℕ
frame_limit = FRAME_LIMIT

-- A piece, where its ranges hold.
abbrev pub in_ranges : PieceParts → Option PieceParts
in_ranges q = if is_piece q then Some q else None

-- The piece that the numbers say, with these bytes behind them.
abbrev pub piece_with : Node → Node → List ℕ → List ℕ → PacketKind → PieceParts
piece_with from to ns tail whole = record {
  from = from;
  to = to;
  tag = record {
    whole = whole;
    run = slice_index ns 1;
    number = slice_index ns 2;
    server = slice_index ns 3;
    job = slice_index ns 4;
    length = slice_index ns 5;
  };
  at = slice_index ns 6;
  bytes = tail;
}

-- The piece that the bytes behind a header are, if they are one.
abbrev pub piece_said : Node → Node → List ℕ → Option PieceParts
piece_said from to bytes =
    if nat_le 33 (length bytes)
    then option_and_then (λ whole. in_ranges
    (piece_with from to (numbers piece_layout bytes) (drop 33 bytes) whole))
    (kind_numbered (slice_index (numbers piece_layout bytes) 0))
    else None

-- What the bytes behind a header say: a piece, or a packet in at most 1,024 bytes.
abbrev pub frame_said : Node → Node → List ℕ → FrameKind → Option Frame
frame_said from to body (sorts.Packet kind) =
    if nat_le (length body) CHUNK_LIMIT
    then option_map (λ b. Whole (record { from = from; to = to; body = b })) (body_at kind body)
    else None
frame_said from to body sorts.Piece = option_map Piece (piece_said from to body)

-- The frame that the bytes say.
abbrev pub frame_at : List ℕ → Option Frame
frame_at bytes =
    option_and_then (λ sort. option_and_then (λ from. option_and_then (λ to.
    frame_said from to (drop 16 bytes) sort)
    (node_numbered (header_at 5 bytes))) (node_numbered (header_at 4 bytes)))
    (sort_numbered (header_at 3 bytes))

-- All faults of a frame: those of the header, and a body that isn't of its kind or too long for it.
abbrev pub frame_faults : List ℕ → List Fault
frame_faults bytes =
    header_faults is_frame_kind frame_limit bytes ++ when (is_none (frame_at bytes)) FrameBadField

-- The bytes have no fault and say the frame, unless memory ran out, or the first fault is theirs.
abbrev pub FrameAnswers : Result Frame Fault → List ℕ → Type 0
FrameAnswers (Ok f) bytes = (frame_faults bytes ≡ []) × (frame_at bytes ≡ Some f)
FrameAnswers (Err f) bytes =
    ((f ≡ FrameNoMemory) × (frame_faults bytes ≡ [])) ⊎ (slice_get (frame_faults bytes) 0 ≡ Some f)
