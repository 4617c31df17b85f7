-- Reading frames.
use Rattle.std.proofs.Common.{◌&&◌, ◌≡◌, inl, inr, ℕ, ◌≤◌, Bool, true, false, Option, Some, None, Result, Ok}
use Rattle.std.proofs.Common.{Err, if◌then◌else◌, List, [], length, drop, refl, sym, subst, ap, ◌∙◌, arith}
use Rattle.std.specs.Prelude.{slice_index, nat_le, IfOk}
use Rattle.std.specs.Option.{option_and_then}
use Rattle.std.proofs.lemmas.Bool.Decides.{nat_tests}
use Rattle.std.proofs.lemmas.Option.{same_Some}
use Rattle.fc_base.specs.declared.fault.Fault.{Fault}
use Rattle.messages.specs.declared.kind.PacketKind.{PacketKind}
use Rattle.messages.specs.declared.piece.Tag.{Tag}
use Rattle.messages.specs.declared.piece.PieceParts.{PieceParts}
use Rattle.messages.specs.declared.frame.Frame.{Frame}
use Rattle.messages.specs.declared.frame.FrameKind.{FrameKind}
use Rattle.messages.specs.declared.reading.Header.{Header}
use Rattle.messages.specs.declared.reading.Ends.{Ends}
use Rattle.messages.specs.declared.reading.frames.PieceFields.{PieceFields}
use Rattle.messages.specs.Kinds.{kind_numbered}
use Rattle.messages.specs.Nodes.{is_node}
use Rattle.fc_base.specs.Layouts.{numbers}
use Rattle.messages.specs.Bodies.{Reads}
use Rattle.messages.specs.PieceRanges.{is_tag_in_range, is_place, is_piece}
use Rattle.messages.specs.FrameBytes.{piece_layout, sort_numbered, frame_limit, in_ranges, piece_with}
use Rattle.messages.specs.FrameBytes.{piece_said, frame_said, frame_at, frame_faults, FrameAnswers}
use Rattle.messages.specs.FrameBytes.{IsShort}
use Rattle.messages.specs.FrameLaws.{SaysFrame, OnlyFramesAreRead}
use Rattle.messages.specs.Laws.{IsBytes}
use Rattle.messages.specs.declared.frame.Frame.TheVariants.{Whole, Piece}
use Rattle.messages.specs.Headers.{HeaderIs, are_nodes}
use Rattle.messages.specs.PieceNumbers.{fields_numbers, tag_with, tag_in_range, tag_said}
use Rattle.messages.proofs.ToldLemmas.{some_then}

-- The piece that the numbers and the bytes behind them make.
abbrev pub made : Ends → Tag → ℕ → List ℕ → PieceParts
made e tag at bytes = record { from = e.from; to = e.to; tag = tag; at = at; bytes = bytes }

ranged_tag : (t u : Tag) (b : Bool) → is_tag_in_range t ≡ b → (if b then Some t else None) ≡ Some u → (b ≡ true) × (t ≡ u)
ranged_tag t u true e h = (refl, some_tag t u h)
  where
    some_tag : (x y : Tag) → Some x ≡ Some y → x ≡ y
    some_tag x y s = cc
ranged_tag t u false e h = absurd cc

pub made_in_range : (e : Ends) (f : PieceFields) (tag : Tag) (bytes : List ℕ) → are_nodes e ≡ true
    → tag_said f ≡ Some tag → is_place tag.length f.at (length bytes) ≡ true → is_piece (made e tag f.at bytes) ≡ true
made_in_range e f tag bytes nodes said place =
    let whole = some_then (λ (k : PacketKind). tag_in_range (tag_with f k)) (kind_numbered f.whole) tag said in
    let ranged = ranged_tag (tag_with f whole.0) tag (is_tag_in_range (tag_with f whole.0)) refl whole.2 in
    let tag_is : is_tag_in_range tag ≡ true = subst (λ (t : Tag). is_tag_in_range t ≡ true) ranged.1 ranged.0 in
    rw (nodes, tag_is, place) refl

pub piece_is_ranged : (e : Ends) (f : PieceFields) (tag : Tag) (bytes rest : List ℕ) → 33 ≤ length bytes → fields_numbers f ≡ numbers piece_layout bytes
    → rest ≡ drop 33 bytes
    → tag_said f ≡ Some tag → piece_said e.from e.to bytes ≡ in_ranges (made e tag f.at rest)
piece_is_ranged e f tag bytes rest long fields rest_is said =
    let whole = some_then (λ (k : PacketKind). tag_in_range (tag_with f k)) (kind_numbered f.whole) tag said in
    let ranged = ranged_tag (tag_with f whole.0) tag (is_tag_in_range (tag_with f whole.0)) refl whole.2 in
    let enough : nat_le 33 (length bytes) ≡ true = grind (arith, nat_tests) in
    let by : List ℕ → Option PieceParts =
    λ ns. option_and_then (λ (k : PacketKind). in_ranges (piece_with e.from e.to ns (drop 33 bytes) k)) (kind_numbered (slice_index ns 0)) in
    ap (λ (b : Bool). if b then by (numbers piece_layout bytes) else None) enough
    ∙ ap by (sym fields)
    ∙ ap (λ (o : Option PacketKind). option_and_then (λ (k : PacketKind). in_ranges (piece_with e.from e.to (fields_numbers f) (drop 33 bytes) k)) o) whole.1
    ∙ ap (λ (t : Tag). in_ranges (made e t f.at (drop 33 bytes))) ranged.1
    ∙ ap (λ (bs : List ℕ). in_ranges (made e tag f.at bs)) (sym rest_is)

pub in_ranges-piece : (q : PieceParts) → is_piece q ≡ true → in_ranges q ≡ Some q
in_ranges-piece q h = rw h refl

pub in_ranges-no_place : (q : PieceParts) → is_place q.tag.length q.at (length q.bytes) ≡ false → in_ranges q ≡ None
in_ranges-no_place q h = none (is_node q.from && is_node q.to && is_tag_in_range q.tag) (is_place q.tag.length q.at (length q.bytes)) h
  where
    none : (a b : Bool) → b ≡ false → ◌≡◌ {A = Option PieceParts} (if a && b then Some q else None) None
    none a true e = absurd cc
    none true false e = refl
    none false false e = refl

told_at : (h : Header FrameKind) (bytes : List ℕ) → HeaderIs sort_numbered frame_limit (Ok h) bytes
    → frame_at bytes ≡ frame_said h.ends.from h.ends.to (drop 16 bytes) h.kind
told_at h bytes told = rw (told.1, told.2, told.3) refl

clean_faults : (h : Header FrameKind) (bytes : List ℕ) (f : Frame) → HeaderIs sort_numbered frame_limit (Ok h) bytes → frame_at bytes ≡ Some f
    → frame_faults bytes ≡ []
clean_faults h bytes f told is = rw (told.0, is) refl

by_cases : (h : Header FrameKind) (bytes : List ℕ) → HeaderIs sort_numbered frame_limit (Ok h) bytes → (r : Result Frame Fault) (o : Option Frame)
    → frame_at bytes ≡ o → Reads r o → FrameAnswers r bytes
by_cases h bytes told (Ok f) o is reads = (clean_faults h bytes f told (is ∙ reads), is ∙ reads)
by_cases h bytes told (Err g) None is reads = inr (rw (told.0, is, reads) refl)
by_cases h bytes told (Err g) (Some f) is reads = inl (reads, clean_faults h bytes f told is)

pub frame_answers : (h : Header FrameKind) (bytes body : List ℕ) → HeaderIs sort_numbered frame_limit (Ok h) bytes → body ≡ drop 16 bytes
    → (r : Result Frame Fault) → Reads r (frame_said h.ends.from h.ends.to body h.kind) → FrameAnswers r bytes
frame_answers h bytes body told is r reads =
    by_cases h bytes told r (frame_said h.ends.from h.ends.to body h.kind)
    (told_at h bytes told ∙ ap (λ (bs : List ℕ). frame_said h.ends.from h.ends.to bs h.kind) (sym is)) reads

-- What is read is said so, and goes whole only where it is short.

pub says_frame : OnlyFramesAreRead → (bytes : List ℕ) → IsBytes bytes → (r : Result Frame Fault) → FrameAnswers r bytes → IfOk r (SaysFrame bytes)
says_frame law bytes fits (Ok f) answer =
    let found = law bytes fits answer.0 in
    subst (SaysFrame bytes) (same_Some found.0 f (sym found.1 ∙ answer.1)) found.2
says_frame law bytes fits (Err g) answer = tt

short_of : (bytes : List ℕ) (f : Frame) → SaysFrame bytes f → IsShort f
short_of bytes (Whole p) says = says.1
short_of bytes (Piece q) says = tt

pub short_frame : (bytes : List ℕ) (r : Result Frame Fault) → IfOk r (SaysFrame bytes) → IfOk r IsShort
short_frame bytes (Ok f) says = short_of bytes f says
short_frame bytes (Err g) says = tt
