-- The one spelling of a packet, and what bytes say.
use Rattle.std.specs.Prelude.{◌≡◌, ◌⊎◌, ℕ, ◌+◌, Bool, ◌&&◌, ◌==◌, not, nat_lt, is_none, is_some, List, []}
use Rattle.std.specs.Prelude.{◌∷◌, ◌++◌, length, drop, slice_index, slice_get, Option, Some, Result, Ok, Err}
use Rattle.std.specs.Option.{option_map, option_and_then}
use Rattle.std.specs.Int.{Width, w8, w32}
use Rattle.fc_base.specs.declared.fault.Fault.{Fault}
use Rattle.fc_base.specs.declared.fault.Fault.TheVariants.{FrameShort, FrameBadMagic, BadKind, FrameBadField, FrameTooLong, FrameTrailing, FrameNoMemory}
use Rattle.fc_base.specs.Faults.{when}
use Rattle.messages.specs.declared.packet.PacketParts.{PacketParts}
use Rattle.messages.specs.declared.body.Body.{Body}
use Rattle.messages.specs.declared.node.Node.{Node}
use Rattle.messages.specs.Kinds.{number_of, kind_numbered}
use Rattle.messages.specs.Nodes.{node_number, node_numbered, is_node}
use Rattle.fc_base.specs.Layouts.{spelled, numbers}
use Rattle.messages.specs.declared.limits.TheConstants.{MAX_BODY}
use Rattle.messages.specs.Ranges.{is_body}
use Rattle.messages.specs.Bodies.{kind_of, length_of, spelled_body, body_at}

-- The ranges of a packet.
abbrev pub is_packet : PacketParts → Bool
is_packet p = is_node p.from && is_node p.to && is_body p.body

-- A header: two letters, the version, the kind, from, to, and how many bytes the body has.
abbrev pub header : List Width
header = w8 ∷ w8 ∷ w8 ∷ w8 ∷ w32 ∷ w32 ∷ w32 ∷ []

-- The letters FC, version 1, the kind, from, to and the length.
abbrev pub header_of : Node → Node → Body → ℕ → List ℕ
header_of from to body len =
    spelled header (70 ∷ 67 ∷ 1 ∷ number_of (kind_of body) ∷ node_number from ∷ node_number to ∷ len
    ∷ [])

-- The bytes of a packet: its header, which has the length of the body, and the body.
abbrev pub spelling : PacketParts → List ℕ
spelling p = header_of p.from p.to p.body (length_of p.body) ++ spelled_body p.body

-- A number of the header.
abbrev pub header_at : ℕ → List ℕ → ℕ
header_at i bytes = slice_index (numbers header bytes) i

-- The bytes begin with the letters and the version.
abbrev pub has_magic : List ℕ → Bool
has_magic bytes = (header_at 0 bytes == 70) && (header_at 1 bytes == 67) && (header_at 2 bytes == 1)

-- The faults of a frame before its body is looked at, in the order in which they are refused: which
-- kinds are known, and how long a body may be, is for the reader to say.
abbrev pub header_faults : (ℕ → Bool) → ℕ → List ℕ → List Fault
header_faults is_known limit bytes =
    when (nat_lt (length bytes) 16) FrameShort
    ++ (when (not (has_magic bytes)) FrameBadMagic
    ++ (when (not (is_known (header_at 3 bytes))) BadKind
    ++ (when (is_none (node_numbered (header_at 4 bytes))) FrameBadField
    ++ (when (is_none (node_numbered (header_at 5 bytes))) FrameBadField
    ++ (when (nat_lt limit (header_at 6 bytes)) FrameTooLong
    ++ (when (nat_lt (length bytes) (16 + header_at 6 bytes)) FrameShort
    ++ when (nat_lt (16 + header_at 6 bytes) (length bytes)) FrameTrailing))))))

-- The number of a packet's kind.
abbrev pub is_packet_kind : ℕ → Bool
is_packet_kind n = is_some (kind_numbered n)

-- The most bytes that a packet's body has.
abbrev pub body_limit : ℕ
body_limit = MAX_BODY

-- The packet that the fields of a frame say.
abbrev pub packet_at : List ℕ → Option PacketParts
packet_at bytes =
    option_and_then (λ kind. option_and_then (λ from. option_and_then (λ to. option_map (λ body.
    record { from = from; to = to; body = body })
    (body_at kind (drop 16 bytes))) (node_numbered (header_at 5 bytes)))
    (node_numbered (header_at 4 bytes))) (kind_numbered (header_at 3 bytes))

-- All faults of a frame: those of the header, and a body that isn't of its kind.
abbrev pub faults_of : List ℕ → List Fault
faults_of bytes =
    header_faults is_packet_kind body_limit bytes ++ when (is_none (packet_at bytes)) FrameBadField

-- The bytes have no fault and say the packet, unless memory ran out, or the first fault is theirs.
abbrev pub Answers : Result PacketParts Fault → List ℕ → Type 0
Answers (Ok p) bytes = (faults_of bytes ≡ []) × (packet_at bytes ≡ Some p)
Answers (Err f) bytes =
    ((f ≡ FrameNoMemory) × (faults_of bytes ≡ [])) ⊎ (slice_get (faults_of bytes) 0 ≡ Some f)
