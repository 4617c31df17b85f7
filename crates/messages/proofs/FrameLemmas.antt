-- Frames: the length in its place, and how long they are.
use Rattle.std.proofs.Common.{◌≡◌, ℕ, ◌+◌, ◌≤◌, ◌&&◌, List, [], ◌∷◌, ◌++◌, length, take, drop, refl, ap, arith}
use borrow.Rule.Slice.PartMut.{put_mid}
use Rattle.std.specs.Int.{w32, to_be_bytes}
use Rattle.std.proofs.lemmas.Bool.{and_parts}
use Rattle.std.proofs.lemmas.List.{drop-drop, length-append}
use Rattle.messages.specs.declared.packet.PacketParts.{PacketParts}
use Rattle.messages.specs.declared.piece.PieceParts.{PieceParts}
use Rattle.messages.specs.declared.body.Body.{Body}
use Rattle.messages.specs.declared.node.Node.{Node}
use Rattle.messages.specs.Nodes.{is_node, node_number}
use Rattle.fc_base.specs.Layouts.{bytes_of, spelled}
use Rattle.messages.specs.declared.limits.TheConstants.{MAX_BODY, PIECE_HEAD}
use Rattle.messages.specs.Ranges.{is_body}
use Rattle.messages.specs.Packets.{header, header_of}
use Rattle.messages.specs.FrameBytes.{piece_layout, piece_numbers, piece_header, piece_spelling}
use Rattle.messages.specs.Bodies.{kind_of, length_of}
use Rattle.messages.specs.Laws.{IsPacket}
use Rattle.messages.proofs.LayoutLemmas.{length-spelled}
use Rattle.verify_state.specs.Laws.{ReadsBack}
use Rattle.messages.proofs.BodyLemmas.{length_of-limit, within_limit}

pub put_len-mid : (xs ys : List ℕ) (n : ℕ) → ys ≡ to_be_bytes w32 n → put_mid 12 4 xs ys ≡ take 12 xs ++ (bytes_of w32 n ++ drop 16 xs)
unfolding bytes_of
put_len-mid xs ys n e = rw e (ap (λ (zs : List ℕ). take 12 xs ++ (to_be_bytes w32 n ++ zs)) (drop-drop 4 12 xs))

-- A header with another length.
pub header_of-len : (from to : Node) (body : Body) (len : ℕ) (rest : List ℕ)
    → take 12 (header_of from to body 0 ++ rest) ++ (bytes_of w32 len ++ drop 16 (header_of from to body 0 ++ rest)) ≡ header_of from to body len ++ rest
unfolding bytes_of
header_of-len from to body len rest = refl

pub length_fits : ReadsBack → (p : PacketParts) → IsPacket p → length_of p.body ≤ MAX_BODY
length_fits law p h =
    omega (arith, length_of-limit law p.body (and_parts (is_node p.from && is_node p.to) (is_body p.body) h.in_range).1 h.state, within_limit (kind_of p.body))

pub length-header_of : (from to : Node) (body : Body) (len : ℕ) → length (header_of from to body len) ≡ 16
unfolding bytes_of
length-header_of from to body len = refl

pub length-piece_spelling : (q : PieceParts) → length (piece_spelling q) ≡ PIECE_HEAD + length q.bytes
length-piece_spelling q =
    omega (
      arith,
      length-append (piece_header q (33 + length q.bytes)) (spelled piece_layout (piece_numbers q) ++ q.bytes),
      length-append (spelled piece_layout (piece_numbers q)) q.bytes,
      length-spelled header (70 ∷ 67 ∷ 1 ∷ 17 ∷ node_number q.from ∷ node_number q.to ∷ (33 + length q.bytes) ∷ []) refl,
      length-spelled piece_layout (piece_numbers q) refl,
    )
