-- Looks at frames: what a header says of the bytes that begin with it.
use Rattle.std.proofs.Common.{◌≡◌, ℕ, ◌+◌, Bool, true, false, ◌&&◌, Ok, Err, Some, List, [], ◌++◌, length, refl, ap, ◌∙◌, arith}
use Rattle.std.specs.Prelude.{not, nat_lt, nat_le, slice_index, slice_get}
use Rattle.std.proofs.lemmas.Bool.Decides.{nat_tests}
use Rattle.fc_base.specs.declared.fault.Fault.{Fault}
use Rattle.fc_base.specs.declared.fault.Fault.TheVariants.{FrameShort, FrameBadMagic}
use Rattle.fc_base.specs.Faults.{when}
use Rattle.messages.specs.declared.frame.Frame.{Frame}
use Rattle.messages.specs.declared.frame.Frame.TheVariants.{Whole, Piece}
use Rattle.messages.specs.declared.frame.FrameKind.{FrameKind}
use Rattle.messages.specs.declared.frame.FrameKind.TheVariants as sorts
use Rattle.messages.specs.declared.node.Node.{Node}
use Rattle.messages.specs.declared.reading.HeaderFields.{HeaderFields}
use Rattle.messages.specs.Kinds.{number_of}
use Rattle.messages.specs.Nodes.{node_numbered, is_node}
use Rattle.messages.specs.Bodies.{kind_of, length_of}
use Rattle.messages.specs.Packets.{has_magic, spelling}
use Rattle.messages.specs.FrameBytes.{frame_spelling, piece_spelling, sort_numbered}
use Rattle.messages.specs.FrameLaws.{IsFrame}
use Rattle.messages.specs.Headers.{FieldsAre}
use Rattle.messages.specs.Looks.{look_of, begins_frame, look_by, look_at}
use Rattle.verify_state.specs.Laws.{ReadsBack}
use Rattle.messages.proofs.ChoiceLemmas.{node_again}
use Rattle.messages.proofs.HeaderLemmas.{Headed}
use Rattle.messages.proofs.LawLemmas.{parts_of, spelling_headed}
use Rattle.messages.proofs.FrameLawLemmas.{sort_of_kind, ranged, piece_headed}

-- Bytes of which the first fault is one of the beginning don't begin as frames do.
pub no_frame : (bytes : List ℕ) (g : Fault) → FieldsAre (Err g) bytes → begins_frame bytes ≡ false
no_frame bytes g told = by_tests (nat_lt (length bytes) 16) (nat_le 16 (length bytes)) (has_magic bytes) (grind (arith, nat_tests)) (told [])
  where
    by_tests : (short long magic : Bool) → long ≡ not short → slice_get (when short FrameShort ++ (when (not magic) FrameBadMagic ++ [])) 0 ≡ Some g
        → (long && magic) ≡ false
    by_tests true long magic e first = rw e refl
    by_tests false long true e first = absurd cc
    by_tests false true false e first = refl
    by_tests false false false e first = refl

-- What a header's numbers say is the look at its bytes.
pub fields_looked : (bytes : List ℕ) (f : HeaderFields) → FieldsAre (Ok f) bytes
    → look_by (node_numbered f.from) (node_numbered f.to) (sort_numbered f.kind) ≡ look_at bytes
fields_looked bytes f told =
    let number = λ (i : ℕ). ap (λ (ns : List ℕ). slice_index ns i) told.2 in
    let long : nat_le 16 (length bytes) ≡ true = grind (arith, nat_tests, told.0) in
    let kind = ap sort_numbered (number 3) in
    let from = ap node_numbered (number 4) in
    let to = ap node_numbered (number 5) in
    rw (long, told.1, kind, from, to) refl

headed_looked : (bytes : List ℕ) (kind : ℕ) (from to : Node) (len : ℕ) (sort : FrameKind) → Headed bytes kind from to len → sort_numbered kind ≡ Some sort
    → is_node from ≡ true → is_node to ≡ true
    → look_at bytes ≡ Some (record { from = from; to = to; kind = sort })
headed_looked bytes kind from to len sort told sort_is hf ht =
    let number = λ (i : ℕ). ap (λ (ns : List ℕ). slice_index ns i) told.numbers in
    let all = told.long in
    let long : nat_le 16 (length bytes) ≡ true = grind (arith, nat_tests) in
    let magic : has_magic bytes ≡ true = rw (number 0, number 1, number 2) refl in
    let kind_is = ap sort_numbered (number 3) ∙ sort_is in
    let from_is = ap node_numbered (number 4) ∙ node_again from hf in
    let to_is = ap node_numbered (number 5) ∙ node_again to ht in
    rw (long, magic, from_is, to_is, kind_is) refl

-- The look at a frame's spelling.
pub looks_at_frames : ReadsBack → (f : Frame) → IsFrame f → look_at (frame_spelling f) ≡ Some (look_of f)
looks_at_frames law (Whole p) h =
    let parts = parts_of p h in
    headed_looked (spelling p) (number_of (kind_of p.body)) p.from p.to (length_of p.body) (sorts.Packet (kind_of p.body)) (spelling_headed law p parts)
    (sort_of_kind (kind_of p.body)) parts.from parts.to
looks_at_frames law (Piece q) h =
    let r = ranged q h in
    headed_looked (piece_spelling q) 17 q.from q.to (33 + length q.bytes) sorts.Piece (piece_headed q r) refl r.from r.to
