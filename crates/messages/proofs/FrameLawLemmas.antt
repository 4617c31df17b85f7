-- The laws of frames that hold packets or pieces.
use Rattle.std.proofs.Common.{◌≡◌, ℕ, ◌+◌, ◌-◌, ◌%◌, ◌<◌, ◌≤◌, Bool, true, ◌&&◌, Option, Some, None}
use Rattle.std.proofs.Common.{List, [], ◌++◌, length, drop, refl, sym, ap, ◌∙◌, append_assoc, arith}
use Rattle.std.specs.Prelude.{if◌then◌else◌, ◌==◌, nat_lt, nat_le, is_none, is_some, slice_index, min}
use Rattle.std.specs.Option.{option_map, option_and_then}
use Rattle.std.proofs.lemmas.Bool.{eqb-true, and_parts, leb-true, ltb-true}
use Rattle.std.proofs.lemmas.Bool.Decides.{nat_tests}
use Rattle.std.proofs.lemmas.List.{length-append, append-nil, nil_from_length}
use Rattle.std.proofs.lemmas.Option.{same_Some}
use Rattle.fc_base.specs.declared.limits.TheConstants.{MAX_JOBS, MAX_SERVERS}
use Rattle.fc_base.specs.declared.fault.Fault.TheVariants.{FrameBadField}
use Rattle.fc_base.specs.Faults.{when}
use Rattle.messages.specs.declared.kind.PacketKind.{PacketKind}
use Rattle.messages.specs.declared.kind.PacketKind.TheVariants as kinds
use Rattle.messages.specs.declared.node.Node.{Node}
use Rattle.messages.specs.declared.packet.PacketParts.{PacketParts}
use Rattle.messages.specs.declared.piece.PieceParts.{PieceParts}
use Rattle.messages.specs.declared.frame.Frame.{Frame}
use Rattle.messages.specs.declared.frame.Frame.TheVariants.{Whole, Piece}
use Rattle.messages.specs.declared.frame.FrameKind.{FrameKind}
use Rattle.messages.specs.declared.frame.FrameKind.TheVariants as sorts
use Rattle.messages.specs.Kinds.{number_of, kind_numbered}
use Rattle.messages.specs.Nodes.{node_numbered, is_node}
use Rattle.messages.specs.Ranges.{is_run, is_attempt, is_job}
use Rattle.fc_base.specs.Layouts.{spelled, numbers}
use Rattle.messages.specs.declared.limits.TheConstants.{CHUNK_LIMIT, FRAME_LIMIT, MAX_BODY}
use Rattle.messages.specs.Bodies.{kind_of, length_of, spelled_body}
use Rattle.messages.specs.Packets.{header, header_faults, spelling}
use Rattle.messages.specs.Laws.{IsPacket}
use Rattle.messages.specs.PieceRanges.{is_long_kind, is_number, is_owner, is_cut_length, is_tag_in_range, is_place, is_piece}
use Rattle.messages.specs.FrameBytes.{piece_layout, piece_numbers, piece_spelling, sort_numbered, is_frame_kind, frame_limit}
use Rattle.messages.specs.FrameBytes.{in_ranges, piece_with, piece_said, frame_said, frame_at, frame_faults, frame_spelling}
use Rattle.messages.specs.FrameLaws.{IsFrame, FramesAreRead, NoFrameBeginsAnother}
use Rattle.verify_state.specs.Laws.{ReadsBack}
use Rattle.messages.proofs.LayoutLemmas.{AreWide, Fit, wide8, wide32, wide64, length-spelled, numbers-spelled, drop-spelled}
use Rattle.messages.proofs.ChoiceLemmas.{kind_again, kind_fits, node_again, node_fits}
use Rattle.messages.proofs.HeaderLemmas.{header_wide, passes, none_left, clean, head_numbers, Headed, headed_passes}
use Rattle.messages.proofs.LawLemmas.{parts_of, numbers_of_header, spelling_headed, framed, none_begins_another}
use Rattle.messages.proofs.BodyLemmas.{length-spelled_body}
use Rattle.messages.proofs.FitLemmas.{body_at-spelled}
use Rattle.messages.proofs.FrameLemmas.{length-piece_spelling}

pub layout_wide : AreWide piece_layout
layout_wide = (wide8, (wide64, (wide64, (wide32, (wide32, (wide32, (wide32, tt)))))))

headed_read : (bytes : List ℕ) (kind : ℕ) (from to : Node) (len : ℕ) (sort : FrameKind) (f : Frame) → Headed bytes kind from to len → len ≤ FRAME_LIMIT
    → sort_numbered kind ≡ Some sort → is_node from ≡ true → is_node to ≡ true
    → frame_said from to (drop 16 bytes) sort ≡ Some f → (frame_faults bytes ≡ []) × (frame_at bytes ≡ Some f)
headed_read bytes kind from to len sort f told most sort_is hf ht said =
    let number = λ (i : ℕ). ap (λ (ns : List ℕ). slice_index ns i) told.numbers in
    let kind_is = ap sort_numbered (number 3) ∙ sort_is in
    let from_is = ap node_numbered (number 4) ∙ node_again from hf in
    let to_is = ap node_numbered (number 5) ∙ node_again to ht in
    let read : frame_at bytes ≡ Some f = rw (kind_is, from_is, to_is, said) refl in
    let passes_all = headed_passes is_frame_kind frame_limit bytes kind from to len told (ap (λ (o : Option FrameKind). is_some o) sort_is) hf ht most in (
      none_left (header_faults is_frame_kind frame_limit bytes) (when
          (is_none (frame_at bytes)) FrameBadField) (clean is_frame_kind frame_limit bytes passes_all)
          (passes (is_none (frame_at bytes)) FrameBadField (ap is_none read)),
      read,
    )

-- A kind of packets isn't that of pieces.
pub sort_of_kind : (k : PacketKind) → sort_numbered (number_of k) ≡ Some (sorts.Packet k)
sort_of_kind kinds.Jobs = ap (λ (o : Option PacketKind). option_map sorts.Packet o) (kind_again kinds.Jobs)
sort_of_kind kinds.JobsOk = ap (λ (o : Option PacketKind). option_map sorts.Packet o) (kind_again kinds.JobsOk)
sort_of_kind kinds.Start = ap (λ (o : Option PacketKind). option_map sorts.Packet o) (kind_again kinds.Start)
sort_of_kind kinds.Started = ap (λ (o : Option PacketKind). option_map sorts.Packet o) (kind_again kinds.Started)
sort_of_kind kinds.Trigger = ap (λ (o : Option PacketKind). option_map sorts.Packet o) (kind_again kinds.Trigger)
sort_of_kind kinds.State = ap (λ (o : Option PacketKind). option_map sorts.Packet o) (kind_again kinds.State)
sort_of_kind kinds.NoState = ap (λ (o : Option PacketKind). option_map sorts.Packet o) (kind_again kinds.NoState)
sort_of_kind kinds.StateAck = ap (λ (o : Option PacketKind). option_map sorts.Packet o) (kind_again kinds.StateAck)
sort_of_kind kinds.Stop = ap (λ (o : Option PacketKind). option_map sorts.Packet o) (kind_again kinds.Stop)
sort_of_kind kinds.Stopped = ap (λ (o : Option PacketKind). option_map sorts.Packet o) (kind_again kinds.Stopped)
sort_of_kind kinds.Verify = ap (λ (o : Option PacketKind). option_map sorts.Packet o) (kind_again kinds.Verify)
sort_of_kind kinds.WantState = ap (λ (o : Option PacketKind). option_map sorts.Packet o) (kind_again kinds.WantState)
sort_of_kind kinds.Saved = ap (λ (o : Option PacketKind). option_map sorts.Packet o) (kind_again kinds.Saved)
sort_of_kind kinds.NoSaved = ap (λ (o : Option PacketKind). option_map sorts.Packet o) (kind_again kinds.NoSaved)
sort_of_kind kinds.Report = ap (λ (o : Option PacketKind). option_map sorts.Packet o) (kind_again kinds.Report)
sort_of_kind kinds.Refused = ap (λ (o : Option PacketKind). option_map sorts.Packet o) (kind_again kinds.Refused)
sort_of_kind kinds.Copy = ap (λ (o : Option PacketKind). option_map sorts.Packet o) (kind_again kinds.Copy)
sort_of_kind kinds.CopyOk = ap (λ (o : Option PacketKind). option_map sorts.Packet o) (kind_again kinds.CopyOk)
sort_of_kind kinds.Fetch = ap (λ (o : Option PacketKind). option_map sorts.Packet o) (kind_again kinds.Fetch)
sort_of_kind kinds.Granted = ap (λ (o : Option PacketKind). option_map sorts.Packet o) (kind_again kinds.Granted)

whole_read : ReadsBack → (p : PacketParts) → IsPacket p → length_of p.body ≤ CHUNK_LIMIT
    → (frame_faults (spelling p) ≡ []) × (frame_at (spelling p) ≡ Some (Whole p))
whole_read law p h short =
    let parts = parts_of p h in
    let behind : drop 16 (spelling p) ≡ spelled_body p.body = drop-spelled header (numbers_of_header p) (spelled_body p.body) refl in
    let len = length-spelled_body p.body in
    let enough : nat_le (length (spelled_body p.body)) CHUNK_LIMIT ≡ true = grind (arith, nat_tests) in
    let said : frame_said p.from p.to (drop 16 (spelling p)) (sorts.Packet (kind_of p.body)) ≡ Some (Whole p) =
    ap (λ (bs : List ℕ). frame_said p.from p.to bs (sorts.Packet (kind_of p.body))) behind
    ∙ rw (enough, body_at-spelled law p.body parts.body parts.keeps) refl in
    headed_read (spelling p) (number_of (kind_of p.body)) p.from p.to (length_of p.body) (sorts.Packet (kind_of p.body)) (Whole p) (spelling_headed law p parts)
    (omega (arith, short)) (sort_of_kind (kind_of p.body)) parts.from parts.to said

-- The numbers of a piece fit their widths.

word_of : (n : ℕ) → is_attempt n ≡ true → n < 18446744073709551616
word_of n h = ltb-true n 18446744073709551616 (and_parts (nat_le 1 n) (nat_lt n 18446744073709551616) h).1

no_number : (n : ℕ) → (n == 0) ≡ true → n < 18446744073709551616
no_number n h = grind (arith, nat_tests)

number_fits : (k : PacketKind) (n : ℕ) → is_long_kind k ≡ true → is_number k n ≡ true → n < 18446744073709551616
number_fits kinds.Jobs n l h = no_number n h
number_fits kinds.JobsOk n l h = absurd cc
number_fits kinds.Start n l h = absurd cc
number_fits kinds.Started n l h = absurd cc
number_fits kinds.Trigger n l h = absurd cc
number_fits kinds.State n l h = no_number n h
number_fits kinds.NoState n l h = absurd cc
number_fits kinds.StateAck n l h = absurd cc
number_fits kinds.Stop n l h = absurd cc
number_fits kinds.Stopped n l h = absurd cc
number_fits kinds.Verify n l h = word_of n h
number_fits kinds.WantState n l h = absurd cc
number_fits kinds.Saved n l h = word_of n h
number_fits kinds.NoSaved n l h = absurd cc
number_fits kinds.Report n l h = absurd cc
number_fits kinds.Refused n l h = absurd cc
number_fits kinds.Copy n l h = absurd cc
number_fits kinds.CopyOk n l h = absurd cc
number_fits kinds.Fetch n l h = absurd cc
number_fits kinds.Granted n l h = absurd cc

small_owner : (s j : ℕ) → (nat_lt s MAX_SERVERS && is_job j) ≡ true → (s < 4294967296) × (j < 4294967296)
small_owner s j h =
    let parts = and_parts (nat_lt s MAX_SERVERS) (is_job j) h in
    let one = ltb-true s MAX_SERVERS parts.0 in
    let two = ltb-true j MAX_JOBS parts.1 in
    (omega (arith, one), omega (arith, two))

no_owner : (s j : ℕ) → ((s == 0) && (j == 0)) ≡ true → (s < 4294967296) × (j < 4294967296)
no_owner s j h =
    let parts = and_parts (s == 0) (j == 0) h in
    let one = parts.0 in
    let two = parts.1 in
    (grind (arith, nat_tests), grind (arith, nat_tests))

owner_fits : (k : PacketKind) (s j : ℕ) → is_long_kind k ≡ true → is_owner k s j ≡ true → (s < 4294967296) × (j < 4294967296)
owner_fits kinds.Jobs s j l h = no_owner s j h
owner_fits kinds.JobsOk s j l h = absurd cc
owner_fits kinds.Start s j l h = absurd cc
owner_fits kinds.Started s j l h = absurd cc
owner_fits kinds.Trigger s j l h = absurd cc
owner_fits kinds.State s j l h = small_owner s j h
owner_fits kinds.NoState s j l h = absurd cc
owner_fits kinds.StateAck s j l h = absurd cc
owner_fits kinds.Stop s j l h = absurd cc
owner_fits kinds.Stopped s j l h = absurd cc
owner_fits kinds.Verify s j l h = no_owner s j h
owner_fits kinds.WantState s j l h = absurd cc
owner_fits kinds.Saved s j l h = small_owner s j h
owner_fits kinds.NoSaved s j l h = absurd cc
owner_fits kinds.Report s j l h = absurd cc
owner_fits kinds.Refused s j l h = absurd cc
owner_fits kinds.Copy s j l h = absurd cc
owner_fits kinds.CopyOk s j l h = absurd cc
owner_fits kinds.Fetch s j l h = absurd cc
owner_fits kinds.Granted s j l h = absurd cc

pub record Ranged (q : PieceParts) : Type 0 where
  pub from : is_node q.from ≡ true
  pub to : is_node q.to ≡ true
  pub numbers : Fit piece_layout (piece_numbers q)
  pub short : length q.bytes ≤ CHUNK_LIMIT

pub ranged : (q : PieceParts) → is_piece q ≡ true → Ranged q
ranged q h =
    let t = q.tag in
    let place = and_parts (is_node q.from && is_node q.to && is_tag_in_range t) (is_place t.length q.at (length q.bytes)) h in
    let tag = and_parts (is_node q.from && is_node q.to) (is_tag_in_range t) place.0 in
    let nodes = and_parts (is_node q.from) (is_node q.to) tag.0 in
    let len = and_parts (is_long_kind t.whole && is_run t.run && is_number t.whole t.number && is_owner t.whole t.server t.job)
    (is_cut_length t.length) tag.1 in
    let owner = and_parts (is_long_kind t.whole && is_run t.run && is_number t.whole t.number) (is_owner t.whole t.server t.job) len.0 in
    let number = and_parts (is_long_kind t.whole && is_run t.run) (is_number t.whole t.number) owner.0 in
    let run = and_parts (is_long_kind t.whole) (is_run t.run) number.0 in
    let most = leb-true t.length MAX_BODY (and_parts (nat_le (CHUNK_LIMIT + 1) t.length) (nat_le t.length MAX_BODY) len.1).1 in
    let count = and_parts ((q.at % CHUNK_LIMIT == 0) && nat_lt q.at t.length) (length q.bytes == min CHUNK_LIMIT (t.length - q.at)) place.1 in
    let before = ltb-true q.at t.length (and_parts (q.at % CHUNK_LIMIT == 0) (nat_lt q.at t.length) count.0).1 in
    let part = eqb-true (length q.bytes) (min CHUNK_LIMIT (t.length - q.at)) count.1 in
    let owners = owner_fits t.whole t.server t.job run.0 owner.1 in
    record {
      from = nodes.0;
      to = nodes.1;
      numbers = (
        kind_fits t.whole,
        (
          word_of t.run run.1,
          (number_fits t.whole t.number run.0 number.1, (owners.0, (owners.1, (omega (arith, most), (omega (arith, before, most), tt))))),
        ),
      );
      short = omega (arith, part);
    }

piece_again : (q : PieceParts) → is_piece q ≡ true → Ranged q → piece_said q.from q.to (spelled piece_layout (piece_numbers q) ++ q.bytes) ≡ Some q
piece_again q h r =
    let bytes = spelled piece_layout (piece_numbers q) ++ q.bytes in
    let len : 33 ≤ length bytes =
    omega (arith, length-append (spelled piece_layout (piece_numbers q)) q.bytes, length-spelled piece_layout (piece_numbers q) refl) in
    let enough : nat_le 33 (length bytes) ≡ true = grind (arith, nat_tests) in
    let by : List ℕ → Option PieceParts =
    λ ns. option_and_then (λ (k : PacketKind). in_ranges (piece_with q.from q.to ns (drop 33 bytes) k)) (kind_numbered (slice_index ns 0)) in
    ap (λ (b : Bool). if b then by (numbers piece_layout bytes) else None) enough
    ∙ ap by (numbers-spelled piece_layout (piece_numbers q) q.bytes layout_wide r.numbers)
    ∙ ap (λ (o : Option PacketKind). option_and_then (λ (k : PacketKind). in_ranges (piece_with q.from q.to (piece_numbers q) (drop 33 bytes) k)) o)
    (kind_again q.tag.whole)
    ∙ ap (λ (bs : List ℕ). in_ranges (piece_with q.from q.to (piece_numbers q) bs q.tag.whole)) (drop-spelled piece_layout (piece_numbers q) q.bytes refl)
    ∙ rw h refl

-- The header of a piece's bytes, whatever stands behind them.
piece_front : (q : PieceParts) (more : List ℕ) → Ranged q → numbers header (piece_spelling q ++ more) ≡ head_numbers 17 q.from q.to (33 + length q.bytes)
piece_front q more r =
    let short = r.short in
    let ns = head_numbers 17 q.from q.to (33 + length q.bytes) in
    let fits : Fit header ns =
    (omega arith, (omega arith, (omega arith, (omega arith, (node_fits q.from r.from, (node_fits q.to r.to, (omega (arith, short), tt))))))) in
    let body = spelled piece_layout (piece_numbers q) ++ q.bytes in
    ap (numbers header) (append_assoc (spelled header ns) body more) ∙ numbers-spelled header ns (body ++ more) header_wide fits

-- The header of a piece's bytes.
pub piece_headed : (q : PieceParts) → Ranged q → Headed (piece_spelling q) 17 q.from q.to (33 + length q.bytes)
piece_headed q r = record {
  numbers = ap (numbers header) (sym (append-nil (piece_spelling q))) ∙ piece_front q [] r;
  long = omega (arith, length-piece_spelling q);
}

piece_read : (q : PieceParts) → is_piece q ≡ true → (frame_faults (piece_spelling q) ≡ []) × (frame_at (piece_spelling q) ≡ Some (Piece q))
piece_read q h =
    let r = ranged q h in
    let short = r.short in
    let body = spelled piece_layout (piece_numbers q) ++ q.bytes in
    let behind : drop 16 (piece_spelling q) ≡ body = drop-spelled header (head_numbers 17 q.from q.to (33 + length q.bytes)) body refl in
    let said : frame_said q.from q.to (drop 16 (piece_spelling q)) sorts.Piece ≡ Some (Piece q) =
    ap (λ (bs : List ℕ). frame_said q.from q.to bs sorts.Piece) behind ∙ ap (λ (o : Option PieceParts). option_map Piece o) (piece_again q h r) in
    headed_read (piece_spelling q) 17 q.from q.to (33 + length q.bytes) sorts.Piece (Piece q) (piece_headed q r) (omega (arith, short)) refl r.from r.to said

pub frames_are_read : ReadsBack → FramesAreRead
frames_are_read law (Whole p) h short = whole_read law p h short
frames_are_read law (Piece q) h short = piece_read q h

-- No spelling begins another: the header tells what a frame is and how long, whatever stands behind it.

abbrev numbers_in_front : Frame → List ℕ
numbers_in_front (Whole p) = numbers_of_header p
numbers_in_front (Piece q) = head_numbers 17 q.from q.to (33 + length q.bytes)

record Tells (f : Frame) (more : List ℕ) : Type 0 where
  told : numbers header (frame_spelling f ++ more) ≡ numbers_in_front f
  long : length (frame_spelling f) ≡ 16 + slice_index (numbers_in_front f) 6

tells : ReadsBack → (f : Frame) (more : List ℕ) → IsFrame f → Tells f more
tells law (Whole p) more h = record {
  told = framed law p more (parts_of p h);
  long = (spelling_headed law p (parts_of p h)).long;
}
tells law (Piece q) more h = record {
  told = piece_front q more (ranged q h);
  long = (piece_headed q (ranged q h)).long;
}

no_packet_kind : kind_numbered 17 ≡ None
unfolding kind_numbered
no_packet_kind = refl

not_a_piece : (k : PacketKind) → number_of k ≡ 17 → ⊥
not_a_piece k e =
    let both_ways = sym (kind_again k) ∙ ap kind_numbered e ∙ no_packet_kind in
    absurd cc

-- Frames with one spelling are one frame.
one_frame : ReadsBack → (f g : Frame) → IsFrame f → IsFrame g → frame_spelling f ≡ frame_spelling g → numbers_in_front f ≡ numbers_in_front g → f ≡ g
one_frame law (Whole p) (Whole q) hp hq e front = ap (λ x. Whole x) (none_begins_another law p q [] hp hq (append-nil (spelling p) ∙ e)).1
one_frame law (Whole p) (Piece q) hp hq e front = absurd (not_a_piece (kind_of p.body) (ap (λ (ns : List ℕ). slice_index ns 3) front))
one_frame law (Piece p) (Whole q) hp hq e front = absurd (not_a_piece (kind_of q.body) (ap (λ (ns : List ℕ). slice_index ns 3) (sym front)))
one_frame law (Piece p) (Piece q) hp hq e front = same_Some (Piece p) (Piece q) (sym (piece_read p hp).1 ∙ ap frame_at e ∙ (piece_read q hq).1)

pub no_frame_begins_another : ReadsBack → NoFrameBeginsAnother
no_frame_begins_another law f g more hf hg e =
    let first = tells law f more hf in
    let second = tells law g [] hg in
    let front : numbers_in_front f ≡ numbers_in_front g =
    sym first.told ∙ ap (numbers header) (e ∙ sym (append-nil (frame_spelling g))) ∙ second.told in
    let len = ap (λ (ns : List ℕ). slice_index ns 6) front in
    let long = first.long in
    let long_too = second.long in
    let nothing : more ≡ [] = nil_from_length more (omega (arith, ap length e, length-append (frame_spelling f) more, long, long_too, len)) in
    let equal : frame_spelling f ≡ frame_spelling g = sym (append-nil (frame_spelling f)) ∙ ap (λ (xs : List ℕ). frame_spelling f ++ xs) (sym nothing) ∙ e in
    (nothing, one_frame law f g hf hg equal front)
