-- What the bytes of a frame without a fault say.
use Rattle.std.proofs.Common.{◌≡◌, ℕ, ◌+◌, ◌≤◌, Bool, true, false, Option, Some, None, List, []}
use Rattle.std.proofs.Common.{◌∷◌, ◌++◌, length, drop, refl, sym, subst, ap, ◌∙◌, inl, inr, arith}
use Rattle.std.specs.Prelude.{if◌then◌else◌, ◌==◌, nat_le, is_none, is_some, not, slice_index}
use Rattle.std.specs.Option.{option_map}
use Rattle.std.proofs.lemmas.Bool.{eqb-true, cases_Bool, leb-true}
use Rattle.std.proofs.lemmas.Bool.Decides.{nat_tests}
use Rattle.std.proofs.lemmas.List.{length-drop}
use Rattle.std.proofs.lemmas.Option.{same_Some}
use Rattle.fc_base.specs.declared.fault.Fault.TheVariants.{FrameBadField}
use Rattle.fc_base.specs.Faults.{when}
use Rattle.messages.specs.declared.body.Body.{Body}
use Rattle.messages.specs.declared.kind.PacketKind.{PacketKind}
use Rattle.messages.specs.declared.kind.PacketKind.TheVariants as kinds
use Rattle.messages.specs.declared.node.Node.{Node}
use Rattle.messages.specs.declared.packet.PacketParts.{PacketParts}
use Rattle.messages.specs.declared.piece.PieceParts.{PieceParts}
use Rattle.messages.specs.declared.frame.Frame.{Frame}
use Rattle.messages.specs.declared.frame.Frame.TheVariants.{Whole, Piece}
use Rattle.messages.specs.declared.frame.FrameKind.{FrameKind}
use Rattle.messages.specs.declared.frame.FrameKind.TheVariants as sorts
use Rattle.messages.specs.Kinds.{kind_numbered}
use Rattle.messages.specs.Nodes.{node_numbered}
use Rattle.fc_base.specs.Layouts.{spelled, numbers}
use Rattle.messages.specs.declared.limits.TheConstants.{CHUNK_LIMIT}
use Rattle.messages.specs.Bodies.{length_of, length_limit, body_at}
use Rattle.messages.specs.Packets.{header, header_at, header_faults, is_packet_kind, body_limit, packet_at, faults_of}
use Rattle.messages.specs.Laws.{IsBytes, Says, OnlyPacketsAreRead}
use Rattle.messages.specs.PieceRanges.{is_piece}
use Rattle.messages.specs.FrameBytes.{piece_layout, piece_numbers, sort_numbered, is_frame_kind}
use Rattle.messages.specs.FrameBytes.{frame_limit, in_ranges, piece_with, piece_said, frame_said, frame_at}
use Rattle.messages.specs.FrameLaws.{SaysFrame, OnlyFramesAreRead}
use Rattle.verify_state.specs.Laws.{ReadsBack, IsSpelled, SaysAState}
use Rattle.verify_state.proofs.FieldLemmas.{bytes_drop}
use Rattle.messages.proofs.LayoutLemmas.{spelled-numbers}
use Rattle.messages.proofs.ChoiceLemmas.{kind_is}
use Rattle.messages.proofs.BodyLemmas.{length-spelled_body, length_of-limit}
use Rattle.messages.proofs.ToldLemmas.{some_of, some_then, is_old, read_body}
use Rattle.messages.proofs.HeaderLemmas.{passes, passed, none_left, left_none, Passes, clean, tested, head_numbers, passed_headed, headed_spelled}
use Rattle.messages.proofs.FrameLawLemmas.{layout_wide}

-- A body in so many bytes is no longer, once it is written: a state in layout 1 is written in fewer.

old_limit : (k : PacketKind) (bytes : List ℕ) → is_old k bytes ≡ true → length_limit k ≤ CHUNK_LIMIT
old_limit kinds.Jobs bytes e = absurd cc
old_limit kinds.JobsOk bytes e = absurd cc
old_limit kinds.Start bytes e = absurd cc
old_limit kinds.Started bytes e = absurd cc
old_limit kinds.Trigger bytes e = absurd cc
old_limit kinds.State bytes e = omega arith
old_limit kinds.NoState bytes e = absurd cc
old_limit kinds.StateAck bytes e = absurd cc
old_limit kinds.Stop bytes e = absurd cc
old_limit kinds.Stopped bytes e = absurd cc
old_limit kinds.Verify bytes e = absurd cc
old_limit kinds.WantState bytes e = absurd cc
old_limit kinds.Saved bytes e = omega arith
old_limit kinds.NoSaved bytes e = absurd cc
old_limit kinds.Report bytes e = absurd cc
old_limit kinds.Refused bytes e = absurd cc
old_limit kinds.Copy bytes e = omega arith
old_limit kinds.CopyOk bytes e = absurd cc
old_limit kinds.Fetch bytes e = absurd cc
old_limit kinds.Granted bytes e = absurd cc

short_body : ReadsBack → IsSpelled → SaysAState → (k : PacketKind) (bytes : List ℕ) (b : Body) → IsBytes bytes → body_at k bytes ≡ Some b
    → length bytes ≤ CHUNK_LIMIT → length_of b ≤ CHUNK_LIMIT
short_body law spell says k bytes b fits e short =
    let read = read_body spell says k bytes b fits e in
    elim (cases_Bool (is_old k bytes)) [
      | inl old ↦
          let most = length_of-limit law b read.in_range read.keeps in
          let kind = ap length_limit read.kind in
          omega (arith, most, kind, old_limit k bytes old)
      | inr new ↦ omega (arith, sym (length-spelled_body b) ∙ ap length (read.spelled new))
    ]

-- What the fields of a frame say.
record FrameFields (bytes : List ℕ) (f : Frame) : Type 0 where
  pub sort : FrameKind
  pub sort_is : sort_numbered (header_at 3 bytes) ≡ Some sort
  pub from : Node
  pub from_is : node_numbered (header_at 4 bytes) ≡ Some from
  pub to : Node
  pub to_is : node_numbered (header_at 5 bytes) ≡ Some to
  pub said : frame_said from to (drop 16 bytes) sort ≡ Some f

frame_fields : (bytes : List ℕ) (f : Frame) → frame_at bytes ≡ Some f → FrameFields bytes f
frame_fields bytes f e =
    let sort = some_then _ (sort_numbered (header_at 3 bytes)) f e in
    let from = some_then _ (node_numbered (header_at 4 bytes)) f sort.2 in
    let to = some_then _ (node_numbered (header_at 5 bytes)) f from.2 in
    record { sort = sort.0; sort_is = sort.1; from = from.0; from_is = from.1; to = to.0; to_is = to.1; said = to.2 }

-- A number that is a kind's of packets, or that of pieces.

kind_of_sort : (t : Bool) (o : Option PacketKind) (k : PacketKind) → (if t then Some sorts.Piece else option_map sorts.Packet o) ≡ Some (sorts.Packet k)
    → o ≡ Some k
kind_of_sort true o k e = absurd cc
kind_of_sort false None k e = absurd cc
kind_of_sort false (Some j) k e = cc

piece_of_sort : (n : ℕ) (t : Bool) (o : Option PacketKind) → (n == 17) ≡ t → (if t then Some sorts.Piece else option_map sorts.Packet o) ≡ Some sorts.Piece
    → n ≡ 17
piece_of_sort n true o is e = eqb-true n 17 is
piece_of_sort n false None is e = absurd cc
piece_of_sort n false (Some j) is e = absurd cc

-- A test that holds.
where_true : {A : Type 0} (t : Bool) (o : Option A) (x : A) → (if t then o else None) ≡ Some x → (t ≡ true) × (o ≡ Some x)
where_true true o x e = (refl, e)
where_true false o x e = absurd cc

-- A whole packet is what the bytes say as a packet.

whole_faults : (bytes : List ℕ) (k : PacketKind) (p : PacketParts) → header_faults is_frame_kind frame_limit bytes ≡ []
    → kind_numbered (header_at 3 bytes) ≡ Some k → packet_at bytes ≡ Some p → faults_of bytes ≡ []
whole_faults bytes k p none kind_is is =
    let t = tested is_frame_kind frame_limit bytes none in
    let within = t.within in
    let packet : Passes is_packet_kind body_limit bytes = record {
      long = t.long;
      magic = t.magic;
      kind = ap (λ (o : Option PacketKind). not (is_some o)) kind_is;
      from = t.from;
      to = t.to;
      within = grind (arith, nat_tests);
      less = t.less;
      more = t.more;
    } in
    none_left (header_faults is_packet_kind body_limit bytes) (when (is_none (packet_at bytes)) FrameBadField) (clean is_packet_kind body_limit bytes packet)
    (passes (is_none (packet_at bytes)) FrameBadField (ap is_none is))

packet_is : (bytes : List ℕ) (k : PacketKind) (from to : Node) (b : Body) → kind_numbered (header_at 3 bytes) ≡ Some k
    → node_numbered (header_at 4 bytes) ≡ Some from → node_numbered (header_at 5 bytes) ≡ Some to
    → body_at k (drop 16 bytes) ≡ Some b → packet_at bytes ≡ Some (record { from = from; to = to; body = b })
packet_is bytes k from to b kind from_is to_is body = rw (kind, from_is, to_is, body) refl

whole_says : ReadsBack → IsSpelled → SaysAState → OnlyPacketsAreRead → (bytes : List ℕ) → IsBytes bytes → header_faults is_frame_kind frame_limit bytes ≡ []
    → (k : PacketKind) (from to : Node) (f : Frame)
    → sort_numbered (header_at 3 bytes) ≡ Some (sorts.Packet k) → node_numbered (header_at 4 bytes) ≡ Some from → node_numbered (header_at 5 bytes) ≡ Some to
    → frame_said from to (drop 16 bytes) (sorts.Packet k) ≡ Some f → SaysFrame bytes f
whole_says law spell says only bytes fits none k from to f sort_is from_is to_is said =
    let kind = kind_of_sort (header_at 3 bytes == 17) (kind_numbered (header_at 3 bytes)) k sort_is in
    let part = where_true (nat_le (length (drop 16 bytes)) CHUNK_LIMIT)
    (option_map (λ (b : Body). Whole (record { from = from; to = to; body = b })) (body_at k (drop 16 bytes))) f said in
    let body = some_of (λ (b : Body). Whole (record { from = from; to = to; body = b })) (body_at k (drop 16 bytes)) f part.1 in
    let p : PacketParts = record { from = from; to = to; body = body.0 } in
    let is : packet_at bytes ≡ Some p = packet_is bytes k from to body.0 kind from_is to_is body.1 in
    let found = only bytes fits (whole_faults bytes k p none kind is) in
    let short = short_body law spell says k (drop 16 bytes) body.0 (bytes_drop 16 bytes fits) body.1 (leb-true (length (drop 16 bytes)) CHUNK_LIMIT part.0) in
    subst (SaysFrame bytes) body.2 (subst (Says bytes) (same_Some found.0 p (sym found.1 ∙ is)) found.2, short)

-- A piece is spelled by the bytes.

ranged : (q r : PieceParts) (t : Bool) → is_piece q ≡ t → (if t then Some q else None) ≡ Some r → (is_piece q ≡ true) × (q ≡ r)
ranged q r true is e = (is, cc)
ranged q r false is e = absurd cc

record IsSaid (from to : Node) (body : List ℕ) (q : PieceParts) : Type 0 where
  pub in_range : is_piece q ≡ true
  pub from_is : q.from ≡ from
  pub to_is : q.to ≡ to
  pub long : 33 ≤ length body
  pub numbers : piece_numbers q ≡ numbers piece_layout body
  pub bytes : q.bytes ≡ drop 33 body

is_said : (from to : Node) (body : List ℕ) (q : PieceParts) → piece_said from to body ≡ Some q → IsSaid from to body q
is_said from to body q e =
    let ns = numbers piece_layout body in
    let part = where_true (nat_le 33 (length body)) _ q e in
    let whole = some_then (λ (k : PacketKind). in_ranges (piece_with from to ns (drop 33 body) k)) (kind_numbered (slice_index ns 0)) q part.1 in
    let made = piece_with from to ns (drop 33 body) whole.0 in
    let is = ranged made q (is_piece made) refl whole.2 in
    let kind = kind_is (slice_index ns 0) whole.0 whole.1 in
    subst (IsSaid from to body) is.1 (record {
      in_range = is.0;
      from_is = refl;
      to_is = refl;
      long = leb-true 33 (length body) part.0;
      numbers = ap (λ (n : ℕ). n ∷ slice_index ns 1 ∷ slice_index ns 2 ∷ slice_index ns 3 ∷ slice_index ns 4 ∷ slice_index ns 5 ∷ slice_index ns 6 ∷ []) kind;
      bytes = refl;
    })

piece_says : (bytes : List ℕ) → IsBytes bytes → header_faults is_frame_kind frame_limit bytes ≡ [] → (from to : Node) (q : PieceParts)
    → header_at 3 bytes ≡ 17 → node_numbered (header_at 4 bytes) ≡ Some from → node_numbered (header_at 5 bytes) ≡ Some to
    → piece_said from to (drop 16 bytes) ≡ Some q → SaysFrame bytes (Piece q)
piece_says bytes fits none from to q kind from_is to_is said =
    let body = drop 16 bytes in
    let s = is_said from to body q said in
    let told = passed_headed is_frame_kind frame_limit bytes (tested is_frame_kind frame_limit bytes none) from to from_is to_is in
    let all = told.long in
    let long = s.long in
    let len : 33 + length q.bytes ≡ header_at 6 bytes = omega (arith, ap length s.bytes, length-drop 33 body, length-drop 16 bytes) in
    let behind : spelled piece_layout (piece_numbers q) ++ q.bytes ≡ body =
    ap (λ (ns : List ℕ). spelled piece_layout ns ++ q.bytes) s.numbers ∙ ap (λ (bs : List ℕ). spelled piece_layout (numbers piece_layout body) ++ bs) s.bytes
    ∙ spelled-numbers piece_layout body layout_wide (bytes_drop 16 bytes fits) long in (
      s.in_range,
      ap (λ (bs : List ℕ). spelled header (head_numbers 17 q.from q.to (33 + length q.bytes)) ++ bs) behind
          ∙ ap (λ (n : ℕ). spelled header (head_numbers 17 q.from q.to n) ++ body) len
          ∙ ap (λ (x : Node). spelled header (head_numbers 17 x q.to (header_at 6 bytes)) ++ body) s.from_is
          ∙ ap (λ (x : Node). spelled header (head_numbers 17 from x (header_at 6 bytes)) ++ body) s.to_is
          ∙ ap (λ (n : ℕ). spelled header (head_numbers n from to (header_at 6 bytes)) ++ body) (sym kind)
          ∙ headed_spelled bytes (header_at 3 bytes) from to (header_at 6 bytes) fits told,
    )

by_sort : ReadsBack → IsSpelled → SaysAState → OnlyPacketsAreRead → (bytes : List ℕ) → IsBytes bytes → header_faults is_frame_kind frame_limit bytes ≡ []
    → (f : Frame) (from to : Node) (sort : FrameKind)
    → sort_numbered (header_at 3 bytes) ≡ Some sort → node_numbered (header_at 4 bytes) ≡ Some from → node_numbered (header_at 5 bytes) ≡ Some to
    → frame_said from to (drop 16 bytes) sort ≡ Some f → SaysFrame bytes f
by_sort law spell says only bytes fits none f from to (sorts.Packet k) sort_is from_is to_is said =
    whole_says law spell says only bytes fits none k from to f sort_is from_is to_is said
by_sort law spell says only bytes fits none f from to sorts.Piece sort_is from_is to_is said =
    let kind = piece_of_sort (header_at 3 bytes) (header_at 3 bytes == 17) (kind_numbered (header_at 3 bytes)) refl sort_is in
    let q = some_of Piece (piece_said from to (drop 16 bytes)) f said in
    subst (SaysFrame bytes) q.2 (piece_says bytes fits none from to q.0 kind from_is to_is q.1)

there : (o : Option Frame) → is_none o ≡ false → (f : Frame) × (o ≡ Some f)
there None e = absurd cc
there (Some f) e = (f, refl)

pub only_frames_are_read : ReadsBack → IsSpelled → SaysAState → OnlyPacketsAreRead → OnlyFramesAreRead
only_frames_are_read law spell says only bytes fits none =
    let parts = left_none (header_faults is_frame_kind frame_limit bytes) (when (is_none (frame_at bytes)) FrameBadField) none in
    let some = there (frame_at bytes) (passed (is_none (frame_at bytes)) FrameBadField parts.1) in
    let f = frame_fields bytes some.0 some.1 in
    (some.0, some.1, by_sort law spell says only bytes fits parts.0 some.0 f.from f.to f.sort f.sort_is f.from_is f.to_is f.said)
