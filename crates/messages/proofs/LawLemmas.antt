-- The laws of frames.
use Rattle.std.proofs.Common.{◌≡◌, ℕ, ◌+◌, ◌≤◌, Bool, true, false, ◌&&◌, ◌||◌, Option, Some, None}
use Rattle.std.proofs.Common.{List, [], ◌++◌, length, drop, refl, sym, ap, ◌∙◌, append_assoc, arith}
use Rattle.std.specs.Prelude.{◌==◌, is_none, is_some, slice_index}
use Rattle.std.proofs.lemmas.Bool.{or_parts, eq-eqb, and_parts}
use Rattle.std.proofs.lemmas.List.{append-nil, length-append, length-drop, drop-drop, nil_from_length}
use Rattle.fc_base.specs.declared.fault.Fault.TheVariants.{FrameBadField}
use Rattle.fc_base.specs.Faults.{when}
use Rattle.messages.specs.declared.body.Body.{Body}
use Rattle.messages.specs.declared.kind.PacketKind.{PacketKind}
use Rattle.messages.specs.declared.kind.PacketKind.TheVariants as kinds
use Rattle.messages.specs.declared.node.Node.{Node}
use Rattle.messages.specs.declared.packet.PacketParts.{PacketParts}
use Rattle.messages.specs.Kinds.{number_of, kind_numbered}
use Rattle.messages.specs.Nodes.{node_numbered, is_node}
use Rattle.messages.specs.Ranges.{is_body, KeepsState}
use Rattle.fc_base.specs.Layouts.{spelled, numbers}
use Rattle.messages.specs.declared.limits.TheConstants.{MAX_BODY}
use Rattle.messages.specs.Bodies.{kind_of, length_of, spelled_body, body_at}
use Rattle.messages.specs.Packets.{is_packet, header, header_of, spelling, header_at, header_faults, is_packet_kind, body_limit, packet_at}
use Rattle.messages.specs.Laws.{IsPacket, holds_layout_1, SpellingsAreRead, OnlyPacketsAreRead, NoneBeginsAnother, LengthsAreBounded}
use Rattle.verify_state.specs.Laws.{ReadsBack, IsSpelled, SaysAState}
use Rattle.verify_state.specs.Reading.{is_layout_1}
use Rattle.verify_state.proofs.FieldLemmas.{bytes_drop}
use Rattle.messages.proofs.LayoutLemmas.{Fit, numbers-spelled, drop-spelled}
use Rattle.messages.proofs.ChoiceLemmas.{kind_again, kind_is, kind_fits, node_again, node_fits}
use Rattle.messages.proofs.HeaderLemmas.{header_wide, passes, passed, none_left, left_none, clean, tested}
use Rattle.messages.proofs.HeaderLemmas.{head_numbers, Headed, headed_passes, passed_headed, headed_spelled}
use Rattle.messages.proofs.BodyLemmas.{length-spelled_body, length_of-limit, within_limit}
use Rattle.messages.proofs.FramesOfLemmas.{length-spelling}
use Rattle.messages.proofs.DecodeLemmas.{node_in_range}
use Rattle.messages.proofs.FitLemmas.{body_at-spelled}
use Rattle.messages.proofs.ToldLemmas.{some_of, some_then, is_old, read_body}

-- The numbers of a packet's header.
abbrev pub numbers_of_header : PacketParts → List ℕ
numbers_of_header p = head_numbers (number_of (kind_of p.body)) p.from p.to (length_of p.body)

pub record Parts (p : PacketParts) : Type 0 where
  pub from : is_node p.from ≡ true
  pub to : is_node p.to ≡ true
  pub body : is_body p.body ≡ true
  pub keeps : KeepsState p.body

pub parts_of : (p : PacketParts) → IsPacket p → Parts p
parts_of p h =
    let last = and_parts (is_node p.from && is_node p.to) (is_body p.body) h.in_range in
    let nodes = and_parts (is_node p.from) (is_node p.to) last.0 in
    record { from = nodes.0; to = nodes.1; body = last.1; keeps = h.state }

most : ReadsBack → (p : PacketParts) → Parts p → length_of p.body ≤ MAX_BODY
most law p h = omega (arith, length_of-limit law p.body h.body h.keeps, within_limit (kind_of p.body))

header_fits : ReadsBack → (p : PacketParts) → Parts p → Fit header (numbers_of_header p)
header_fits law p h =
    let limit = most law p h in
    (omega arith, (omega arith, (omega arith, (kind_fits (kind_of p.body), (node_fits p.from h.from, (node_fits p.to h.to, (omega arith, tt)))))))

pub framed : ReadsBack → (p : PacketParts) (more : List ℕ) → Parts p → numbers header (spelling p ++ more) ≡ numbers_of_header p
framed law p more h =
    ap (numbers header) (append_assoc (header_of p.from p.to p.body (length_of p.body)) (spelled_body p.body) more)
    ∙ numbers-spelled header (numbers_of_header p) (spelled_body p.body ++ more) header_wide (header_fits law p h)

pub spelling_headed : ReadsBack → (p : PacketParts) → Parts p → Headed (spelling p) (number_of (kind_of p.body)) p.from p.to (length_of p.body)
spelling_headed law p h = record {
  numbers = numbers-spelled header (numbers_of_header p) (spelled_body p.body) header_wide (header_fits law p h);
  long = length-spelling p;
}

spelling_clean : ReadsBack → (p : PacketParts) → Parts p → header_faults is_packet_kind body_limit (spelling p) ≡ []
spelling_clean law p h =
    let known : is_packet_kind (number_of (kind_of p.body)) ≡ true = ap (λ (k : Option PacketKind). is_some k) (kind_again (kind_of p.body)) in
    clean is_packet_kind body_limit (spelling p)
    (headed_passes is_packet_kind body_limit (spelling p) (number_of (kind_of p.body)) p.from p.to (length_of p.body)
    (spelling_headed law p h) known h.from h.to (most law p h))

spelling_read : ReadsBack → (p : PacketParts) → Parts p → packet_at (spelling p) ≡ Some p
spelling_read law p h =
    let told = spelling_headed law p h in
    let number = λ (i : ℕ). ap (λ (ns : List ℕ). slice_index ns i) told.numbers in
    let kind = ap kind_numbered (number 3) ∙ kind_again (kind_of p.body) in
    let from = ap node_numbered (number 4) ∙ node_again p.from h.from in
    let to = ap node_numbered (number 5) ∙ node_again p.to h.to in
    let behind : drop 16 (spelling p) ≡ spelled_body p.body = drop-spelled header (numbers_of_header p) (spelled_body p.body) refl in
    let body = ap (body_at (kind_of p.body)) behind ∙ body_at-spelled law p.body h.body h.keeps in
    rw (kind, from, to, body) refl

pub spellings_are_read : ReadsBack → SpellingsAreRead
spellings_are_read law p h =
    let parts = parts_of p h in
    let read = spelling_read law p parts in (
      none_left (header_faults is_packet_kind body_limit (spelling p)) (when
          (is_none (packet_at (spelling p))) FrameBadField) (spelling_clean law p parts)
          (passes (is_none (packet_at (spelling p))) FrameBadField (ap is_none read)),
      read,
    )

there : (o : Option PacketParts) → is_none o ≡ false → (p : PacketParts) × (o ≡ Some p)
there None e = absurd cc
there (Some p) e = (p, refl)

-- The fields that make a packet.
record Fields (bytes : List ℕ) (p : PacketParts) : Type 0 where
  pub kind : PacketKind
  pub kind_is : kind_numbered (header_at 3 bytes) ≡ Some kind
  pub from : node_numbered (header_at 4 bytes) ≡ Some p.from
  pub to : node_numbered (header_at 5 bytes) ≡ Some p.to
  pub body : body_at kind (drop 16 bytes) ≡ Some p.body

fields_of : (bytes : List ℕ) (p : PacketParts) → packet_at bytes ≡ Some p → Fields bytes p
fields_of bytes p e =
    let kind = some_then _ (kind_numbered (header_at 3 bytes)) p e in
    let from = some_then _ (node_numbered (header_at 4 bytes)) p kind.2 in
    let to = some_then _ (node_numbered (header_at 5 bytes)) p from.2 in
    let body = some_of (λ (b : Body). packet from.0 to.0 b) (body_at kind.0 (drop 16 bytes)) p to.2 in
    record {
      kind = kind.0;
      kind_is = kind.1;
      from = from.1 ∙ ap (λ (q : PacketParts). Some q.from) body.2;
      to = to.1 ∙ ap (λ (q : PacketParts). Some q.to) body.2;
      body = body.1 ∙ ap (λ (q : PacketParts). Some q.body) body.2;
    }
  where
    packet : Node → Node → Body → PacketParts
    packet f t b = record { from = f; to = t; body = b }

-- A frame whose state, if it has one, isn't of layout 1.
the_other : (a b : Bool) → a ≡ true → (a && b) ≡ false → b ≡ false
the_other true b t e = e
the_other false b t e = absurd cc

not_old : (bytes : List ℕ) (k : PacketKind) → kind_numbered (header_at 3 bytes) ≡ Some k → holds_layout_1 bytes ≡ false → is_old k (drop 16 bytes) ≡ false
not_old bytes k known other = by_kind k (sym (kind_is (header_at 3 bytes) k known))
  where
    in_state : Bool
    in_state = (header_at 3 bytes == 6) && is_layout_1 (drop 20 bytes)

    in_saved : Bool
    in_saved = (header_at 3 bytes == 13) && is_layout_1 (drop 24 bytes)

    in_copy : Bool
    in_copy = (header_at 3 bytes == 18) && is_layout_1 (drop 16 bytes)

    first : (in_state ≡ false) × ((in_saved || in_copy) ≡ false)
    first = or_parts in_state (in_saved || in_copy) other

    others : (in_saved ≡ false) × (in_copy ≡ false)
    others = or_parts in_saved in_copy first.1

    behind : (number skip : ℕ) → header_at 3 bytes ≡ number → ((header_at 3 bytes == number) && is_layout_1 (drop (16 + skip) bytes)) ≡ false
        → is_layout_1 (drop skip (drop 16 bytes)) ≡ false
    behind number skip e other = ap is_layout_1 (drop-drop skip 16 bytes)
        ∙ the_other (header_at 3 bytes == number) (is_layout_1 (drop (16 + skip) bytes)) (eq-eqb (header_at 3 bytes) number e) other

    by_kind : (j : PacketKind) → header_at 3 bytes ≡ number_of j → is_old j (drop 16 bytes) ≡ false
    by_kind kinds.Jobs e = refl
    by_kind kinds.JobsOk e = refl
    by_kind kinds.Start e = refl
    by_kind kinds.Started e = refl
    by_kind kinds.Trigger e = refl
    by_kind kinds.State e = behind 6 4 e first.0
    by_kind kinds.NoState e = refl
    by_kind kinds.StateAck e = refl
    by_kind kinds.Stop e = refl
    by_kind kinds.Stopped e = refl
    by_kind kinds.Verify e = refl
    by_kind kinds.WantState e = refl
    by_kind kinds.Saved e = behind 13 8 e others.0
    by_kind kinds.NoSaved e = refl
    by_kind kinds.Report e = refl
    by_kind kinds.Refused e = refl
    by_kind kinds.Copy e = behind 18 0 e others.1
    by_kind kinds.CopyOk e = refl
    by_kind kinds.Fetch e = refl
    by_kind kinds.Granted e = refl

pub only_packets_are_read : IsSpelled → SaysAState → OnlyPacketsAreRead
only_packets_are_read law says bytes fits none =
    let parts = left_none (header_faults is_packet_kind body_limit bytes) (when (is_none (packet_at bytes)) FrameBadField) none in
    let some = there (packet_at bytes) (passed (is_none (packet_at bytes)) FrameBadField parts.1) in
    let p = some.0 in
    let fields = fields_of bytes p some.1 in
    let told = passed_headed is_packet_kind body_limit bytes (tested is_packet_kind body_limit bytes parts.0) p.from p.to fields.from fields.to in
    let body = read_body law says fields.kind (drop 16 bytes) p.body (bytes_drop 16 bytes fits) fields.body in
    let kind : header_at 3 bytes ≡ number_of (kind_of p.body) = sym (ap number_of body.kind ∙ kind_is (header_at 3 bytes) fields.kind fields.kind_is) in
    let all = told.long in (
      p,
      some.1,
      record {
        packet = record { in_range = made p fields body.in_range; state = body.keeps };
        spelled = λ other.
            let same = body.spelled (not_old bytes fields.kind fields.kind_is other) in
            let len : header_at 6 bytes ≡ length_of p.body = omega (arith, sym (length-spelled_body p.body) ∙ ap length same, length-drop 16 bytes) in
            ap (λ (b : List ℕ). header_of p.from p.to p.body (length_of p.body) ++ b) same
            ∙ ap (λ (n : ℕ). spelled header (head_numbers (number_of (kind_of p.body)) p.from p.to n) ++ drop 16 bytes) (sym len)
            ∙ ap (λ (n : ℕ). spelled header (head_numbers n p.from p.to (header_at 6 bytes)) ++ drop 16 bytes) (sym kind)
            ∙ headed_spelled bytes (header_at 3 bytes) p.from p.to (header_at 6 bytes) fits told;
      },
    )
  where
    made : (q : PacketParts) → Fields bytes q → is_body q.body ≡ true → is_packet q ≡ true
    made q f h = rw (node_in_range (header_at 4 bytes) q.from f.from, node_in_range (header_at 5 bytes) q.to f.to, h) refl

pub none_begins_another : ReadsBack → NoneBeginsAnother
none_begins_another law p q more hp hq e =
    let first = parts_of p hp in
    let second = parts_of q hq in
    let same = sym (framed law p more first) ∙ ap (numbers header) e ∙ (spelling_headed law q second).numbers in
    let len : length_of p.body ≡ length_of q.body = ap (λ (ns : List ℕ). slice_index ns 6) same in
    let nothing : more ≡ [] = nil_from_length more (omega (arith, ap length e, length-append (spelling p) more, length-spelling p, length-spelling q)) in
    let equal : spelling p ≡ spelling q = sym (append-nil (spelling p)) ∙ ap (λ (xs : List ℕ). spelling p ++ xs) (sym nothing) ∙ e in
    let read = sym (spellings_are_read law p hp).1 ∙ ap packet_at equal ∙ (spellings_are_read law q hq).1 in
    (nothing, some_packet p q read)
  where
    some_packet : (x y : PacketParts) → Some x ≡ Some y → x ≡ y
    some_packet x y h = cc

pub lengths_are_bounded : ReadsBack → LengthsAreBounded
lengths_are_bounded law b h keeps = length_of-limit law b h keeps
