-- What the bytes of a frame say, as they are read of a whole packet: that packet, and nothing where they are a piece.
use Rattle.std.proofs.Common.{◌≡◌, refl, sym, ◌∙◌, ap, subst, ℕ, Bool, true, false, ◌==◌, List, Option, Some, None}
use Rattle.std.specs.Prelude.{if◌then◌else◌, nat_le, length, drop}
use Rattle.std.specs.Option.{option_map, option_and_then}
use Rattle.std.proofs.lemmas.Bool.{eqb-true}
use Rattle.messages.specs.declared.body.Body.{Body}
use Rattle.messages.specs.declared.frame.Frame.{Frame}
use Rattle.messages.specs.declared.frame.Frame.TheVariants.{Whole, Piece}
use Rattle.messages.specs.declared.frame.FrameKind.TheVariants as sorts
use Rattle.messages.specs.declared.kind.PacketKind.{PacketKind}
use Rattle.messages.specs.declared.limits.TheConstants.{CHUNK_LIMIT}
use Rattle.messages.specs.declared.node.Node.{Node}
use Rattle.messages.specs.declared.packet.PacketParts.{PacketParts}
use Rattle.messages.specs.declared.piece.PieceParts.{PieceParts}
use Rattle.messages.specs.Bodies.{body_at}
use Rattle.messages.specs.FrameBytes.{frame_at, frame_said, piece_said}
use Rattle.messages.specs.Kinds.{kind_numbered}
use Rattle.messages.specs.Nodes.{node_numbered}
use Rattle.messages.specs.Packets.{header_at, packet_at}

-- A frame says this as a packet.
abbrev pub SaysPacket : Frame → Option PacketParts → Type 0
SaysPacket (Whole p) x = x ≡ Some p
SaysPacket (Piece q) x = x ≡ None

no_17 : kind_numbered 17 ≡ None
unfolding kind_numbered
no_17 = refl

make : Node → Node → Body → PacketParts
make from to body = record { from = from; to = to; body = body }

whole_said : (from to : Node) (x : Option Body) (f : Frame) → option_map (λ b. Whole (record { from = from; to = to; body = b })) x ≡ Some f
    → SaysPacket f (option_map (λ b. record { from = from; to = to; body = b }) x)
unfolding make
whole_said from to None f h = absurd cc
whole_said from to (Some b) f h =
    let same : Whole (make from to b) ≡ f = cc in
    subst (λ g. SaysPacket g (Some (make from to b))) same refl

body_said : (b : Bool) (from to : Node) (x : Option Body) (f : Frame)
    → (if b then option_map (λ body. Whole (record { from = from; to = to; body = body })) x else None) ≡ Some f
    → SaysPacket f (option_map (λ body. record { from = from; to = to; body = body }) x)
body_said true from to x f h = whole_said from to x f h
body_said false from to x f h = absurd cc

piece_is : (x : Option PieceParts) (f : Frame) → option_map Piece x ≡ Some f → (q : PieceParts) × (Piece q ≡ f)
piece_is None f h = absurd cc
piece_is (Some q) f h = (q, cc)

by_nodes : (a b : Option Node) (kind : PacketKind) (bytes : List ℕ) (f : Frame)
    → option_and_then (λ from. option_and_then (λ to. frame_said from to bytes (sorts.Packet kind)) b) a ≡ Some f
    → SaysPacket f (option_and_then (λ from. option_and_then (λ to. option_map (λ body. record { from = from; to = to; body = body }) (body_at kind bytes)) b) a)
by_nodes None b kind bytes f h = absurd cc
by_nodes (Some from) None kind bytes f h = absurd cc
by_nodes (Some from) (Some to) kind bytes f h = body_said (nat_le (length bytes) CHUNK_LIMIT) from to (body_at kind bytes) f h

by_piece : (a b : Option Node) (bytes : List ℕ) (f : Frame) → option_and_then (λ from. option_and_then (λ to. frame_said from to bytes sorts.Piece) b) a ≡ Some f
    → SaysPacket f None
by_piece None b bytes f h = absurd cc
by_piece (Some from) None bytes f h = absurd cc
by_piece (Some from) (Some to) bytes f h = let k = piece_is (piece_said from to bytes) f h in subst (λ g. SaysPacket g None) k.1 refl

by_kind : (n : ℕ) (t : Bool) → (n == 17) ≡ t → (x : Option PacketKind) → kind_numbered n ≡ x → (a b : Option Node) (bytes : List ℕ) (f : Frame)
    → option_and_then (λ sort. option_and_then (λ from. option_and_then (λ to. frame_said from to bytes sort) b) a)
    (if t then Some sorts.Piece else option_map sorts.Packet x) ≡ Some f
    → SaysPacket f (option_and_then (λ kind. option_and_then (λ from. option_and_then (λ to.
    option_map (λ body. record { from = from; to = to; body = body }) (body_at kind bytes)) b) a) x)
by_kind n true e None is a b bytes f h = by_piece a b bytes f h
by_kind n true e (Some kind) is a b bytes f h =
    let none : None ≡ Some kind = sym no_17 ∙ ap kind_numbered (sym (eqb-true n 17 e)) ∙ is in
    absurd cc
by_kind n false e None is a b bytes f h = absurd cc
by_kind n false e (Some kind) is a b bytes f h = by_nodes a b kind bytes f h

-- The bytes of a whole frame say its packet, and those of a piece say none.
pub reads : (bytes : List ℕ) (f : Frame) → frame_at bytes ≡ Some f → SaysPacket f (packet_at bytes)
reads bytes f h =
    by_kind (header_at 3 bytes) (header_at 3 bytes == 17) refl (kind_numbered (header_at 3 bytes)) refl (node_numbered (header_at 4 bytes))
    (node_numbered (header_at 5 bytes)) (drop 16 bytes) f h

same_packet : (p q : PacketParts) → Some p ≡ Some q → p ≡ q
same_packet p q h = cc

-- So where they say a packet, the frame is that packet whole.
pub is_whole_of : (bytes : List ℕ) (f : Frame) (p : PacketParts) → frame_at bytes ≡ Some f → packet_at bytes ≡ Some p → f ≡ Whole p
is_whole_of bytes f p h says = by f (reads bytes f h)
  where
    by : (g : Frame) → SaysPacket g (packet_at bytes) → g ≡ Whole p
    by (Whole q) k = ap Whole (same_packet q p (sym k ∙ says))
    by (Piece q) k = let none : None ≡ Some p = sym k ∙ says in absurd cc
