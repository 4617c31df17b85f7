-- A look at a frame: what its header says of it.
use Rattle.std.specs.Prelude.{◌≡◌, ℕ, Bool, ◌&&◌, nat_le, if◌then◌else◌, List, length, codes, Option, Some, None}
use Rattle.std.specs.Option.{option_map, option_and_then}
use Rattle.messages.specs.declared.frame.Frame.{Frame}
use Rattle.messages.specs.declared.frame.Frame.TheVariants.{Whole, Piece}
use Rattle.messages.specs.declared.frame.FrameKind.{FrameKind}
use Rattle.messages.specs.declared.frame.FrameKind.TheVariants as sorts
use Rattle.messages.specs.declared.node.Node.{Node}
use Rattle.messages.specs.declared.reading.look.FrameLook.{FrameLook}
use Rattle.messages.specs.Kinds.{name_of}
use Rattle.messages.specs.Nodes.{node_numbered}
use Rattle.messages.specs.Bodies.{kind_of}
use Rattle.messages.specs.Packets.{header_at, has_magic}
use Rattle.messages.specs.FrameBytes.{frame_spelling, sort_numbered}
use Rattle.messages.specs.FrameLaws.{IsFrame}

-- The name of a kind of frame.
abbrev pub sort_name : FrameKind → List ℕ
sort_name (sorts.Packet kind) = name_of kind
sort_name sorts.Piece = codes "Piece"

-- Who sends a frame, to whom, and its kind.
abbrev pub look_of : Frame → FrameLook
look_of (Whole p) = record { from = p.from; to = p.to; kind = sorts.Packet (kind_of p.body) }
look_of (Piece q) = record { from = q.from; to = q.to; kind = sorts.Piece }

-- The bytes begin as frames do: with 16 bytes at least, the letters FC and version 1.
abbrev pub begins_frame : List ℕ → Bool
begins_frame bytes = nat_le 16 (length bytes) && has_magic bytes

-- The look with these ends and this kind, where all are known.
abbrev pub look_by : Option Node → Option Node → Option FrameKind → Option FrameLook
look_by from to kind =
    option_and_then (λ from. option_and_then (λ to. option_map (λ kind.
    record { from = from; to = to; kind = kind })
    kind) to) from

-- What a header says, where the bytes begin with one.
abbrev pub look_at : List ℕ → Option FrameLook
look_at bytes =
    if begins_frame bytes
    then look_by (node_numbered (header_at 4 bytes)) (node_numbered (header_at 5 bytes))
    (sort_numbered (header_at 3 bytes))
    else None

-- The look at a frame's spelling gives its ends and its kind.
abbrev pub LooksAtFrames : List ℕ → Option FrameLook → Type 0
LooksAtFrames bytes looked =
    (f : Frame) → IsFrame f → frame_spelling f ≡ bytes → looked ≡ Some (look_of f)
