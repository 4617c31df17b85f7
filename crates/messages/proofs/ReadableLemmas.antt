-- The frames of a packet are in their ranges, and short enough to be read.
use Rattle.std.proofs.Common.{◌≡◌, refl, ◌∙◌, ap, ℕ, zero, suc, ◌+◌, ◌-◌, ◌%◌, ◌<◌, ◌≤◌, arith}
use Rattle.std.proofs.Common.{Bool, true, false, ◌&&◌, ◌==◌, List, [], ◌∷◌, length, drop}
use Rattle.std.specs.List.{flat_map}
use Rattle.std.specs.Prelude.{if◌then◌else◌, All, IsTrue, map, min, nat_lt, nat_le}
use Rattle.std.proofs.lemmas.List.Elements.{All-nil, All-cons, All-append, All-map, All-weaker, Contains-append_left, Contains-append_right}
use Rattle.std.proofs.lemmas.Bool.{and_from, eq-eqb, le-leb, lt-ltb, and_parts, ltb-true}
use Rattle.std.proofs.lemmas.Bool.Decides.{nat_tests}
use Rattle.std.proofs.lemmas.List.{length-take, length-drop}
use Rattle.fc_base.specs.declared.limits.TheConstants.{MAX_TEXT}
use Rattle.messages.specs.declared.limits.TheConstants.{CHUNK_LIMIT, MAX_BODY}
use Rattle.messages.specs.declared.packet.PacketParts.{PacketParts}
use Rattle.messages.specs.declared.frame.Frame.TheVariants.{Whole, Piece}
use Rattle.messages.specs.declared.body.Body.{Body}
use Rattle.messages.specs.declared.body.Body.TheVariants as bodies
use Rattle.messages.specs.Nodes.{is_node}
use Rattle.messages.specs.Ranges.{is_body, is_run, is_attempt, is_text, KeepsState}
use Rattle.messages.specs.Bodies.{kind_of, length_limit, length_of, spelled_body}
use Rattle.messages.specs.Laws.{IsPacket, LengthsAreBounded}
use Rattle.messages.specs.FrameLaws.{IsReadable, FramesAreReadable}
use Rattle.messages.specs.Pieces.{is_cut, tag_of, places_from, places, bytes_at, piece_at, pieces_of, frames_of}
use Rattle.messages.specs.PieceLaws.{ArePackets}
use Rattle.messages.specs.PieceRanges.{is_tag_in_range, is_cut_length, is_place, is_piece}
use Rattle.messages.proofs.BodyLemmas.{length-spelled_body}

-- ---- the places of a body

record IsPlaceOf (len at : ℕ) : Type 0 where
  multiple : at % CHUNK_LIMIT ≡ 0
  below : at < len

next_place : (at : ℕ) → at % CHUNK_LIMIT ≡ 0 → (at + CHUNK_LIMIT) % CHUNK_LIMIT ≡ 0
next_place at h = omega (arith, h)

places_by : (at len : ℕ) (more : List ℕ) → at % CHUNK_LIMIT ≡ 0 → All (IsPlaceOf len) more → (b : Bool) → nat_lt at len ≡ b
    → All (IsPlaceOf len) (if b then at ∷ more else [])
places_by at len more m rest true e = All-cons (IsPlaceOf len) at more (record { multiple = m; below = ltb-true at len e }) rest
places_by at len more m rest false e = All-nil (IsPlaceOf len)

places_are : (n at len : ℕ) → at % CHUNK_LIMIT ≡ 0 → All (IsPlaceOf len) (places_from n at len)
places_are zero at len m = All-nil (IsPlaceOf len)
places_are (suc n) at len m =
    places_by at len (places_from n (at + CHUNK_LIMIT) len) m (places_are n (at + CHUNK_LIMIT) len (next_place at m)) (nat_lt at len) refl

-- ---- the tag of a body that is cut

cut_length : (text : List ℕ) (len : ℕ) → is_text text ≡ true → len ≤ 16 + length text → nat_lt CHUNK_LIMIT len ≡ true → is_cut_length len ≡ true
cut_length text len t l h =
    and_from (nat_le (CHUNK_LIMIT + 1) len) (nat_le len MAX_BODY) (le-leb (CHUNK_LIMIT + 1) len (omega (arith, ltb-true CHUNK_LIMIT len h)))
    (le-leb len MAX_BODY (omega (arith, few text t, l)))
  where
    few : (text : List ℕ) → is_text text ≡ true → length text ≤ MAX_TEXT
    few text h = grind (arith, nat_tests)

not_long : (b : Body) (limit : ℕ) → length_of b ≤ limit → limit ≤ CHUNK_LIMIT → is_cut b ≡ true → is_tag_in_range (tag_of b) ≡ true
not_long b limit l m c = absurd (below (length_of b) limit l m c)
  where
    below : (a limit : ℕ) → a ≤ limit → limit ≤ CHUNK_LIMIT → nat_lt CHUNK_LIMIT a ≡ true → ⊥
    below a limit l m c = grind (arith, nat_tests)

-- Only a body with a job file is long enough.
cut_tag : LengthsAreBounded → (b : Body) → IsTrue (is_body b) → KeepsState b → is_cut b ≡ true → is_tag_in_range (tag_of b) ≡ true
cut_tag law (bodies.Jobs run text) h k c =
    let parts = and_parts (is_run run) (is_text text) h in
    let len = length_of (bodies.Jobs run text) in
    and_from (((true && is_run run) && (0 == 0)) && ((0 == 0) && (0 == 0))) (is_cut_length len)
    (and_from ((true && is_run run) && (0 == 0)) ((0 == 0) && (0 == 0)) (and_from (true && is_run run) (0 == 0) parts.0 refl) refl)
    (cut_length text len parts.1 (omega arith) c)
cut_tag law (bodies.Verify run attempt text) h k c =
    let parts = and_parts (is_run run && is_attempt attempt) (is_text text) h in
    let front = and_parts (is_run run) (is_attempt attempt) parts.0 in
    let len = length_of (bodies.Verify run attempt text) in
    and_from (((true && is_run run) && is_attempt attempt) && ((0 == 0) && (0 == 0))) (is_cut_length len)
    (and_from ((true && is_run run) && is_attempt attempt) ((0 == 0) && (0 == 0))
    (and_from (true && is_run run) (is_attempt attempt) front.0 front.1) refl)
    (cut_length text len parts.1 (omega arith) c)
cut_tag law b h k c = not_long b (length_limit (kind_of b)) (law b h k) (omega arith) c

-- ---- a piece, and the frames

place_fits : (bytes : List ℕ) (len at : ℕ) → length bytes ≡ len → IsPlaceOf len at → is_place len at (length (bytes_at bytes at)) ≡ true
place_fits bytes len at e p =
    and_from ((at % CHUNK_LIMIT == 0) && nat_lt at len) (length (bytes_at bytes at) == min CHUNK_LIMIT (len - at))
    (and_from (at % CHUNK_LIMIT == 0) (nat_lt at len) (eq-eqb (at % CHUNK_LIMIT) 0 p.multiple) (lt-ltb at len p.below))
    (eq-eqb (length (bytes_at bytes at)) (min CHUNK_LIMIT (len - at))
    (length-take CHUNK_LIMIT (drop at bytes) ∙ ap (min CHUNK_LIMIT) (length-drop at bytes ∙ ap (λ k. k - at) e)))

piece_fits : (p : PacketParts) → IsPacket p → is_tag_in_range (tag_of p.body) ≡ true → (at : ℕ) → IsPlaceOf (length_of p.body) at
    → is_piece (piece_at p at) ≡ true
piece_fits p h tag at place =
    let ends = and_parts (is_node p.from && is_node p.to) (is_body p.body) h.in_range in
    and_from ((is_node p.from && is_node p.to) && is_tag_in_range (tag_of p.body)) (is_place (length_of p.body) at (length (bytes_at (spelled_body p.body) at)))
    (and_from (is_node p.from && is_node p.to) (is_tag_in_range (tag_of p.body)) ends.0 tag)
    (place_fits (spelled_body p.body) (length_of p.body) at (length-spelled_body p.body) place)

not_cut : (len : ℕ) → nat_lt CHUNK_LIMIT len ≡ false → len ≤ CHUNK_LIMIT
not_cut len h = grind (arith, nat_tests)

pieces_readable : (p : PacketParts) → IsPacket p → is_tag_in_range (tag_of p.body) ≡ true → All IsReadable (map Piece (pieces_of p))
pieces_readable p h tag =
    All-map IsReadable Piece (pieces_of p)
    (All-map (λ q. IsReadable (Piece q)) (piece_at p) (places (length_of p.body))
    (All-weaker (IsPlaceOf (length_of p.body)) (λ at. IsReadable (Piece (piece_at p at)))
    (λ at place. record { in_range = piece_fits p h tag at place; is_short = tt })
    (places (length_of p.body)) (places_are (length_of p.body) 0 (length_of p.body) refl)))

readable_by : LengthsAreBounded → (p : PacketParts) → IsPacket p → (b : Bool) → is_cut p.body ≡ b
    → All IsReadable (if b then map Piece (pieces_of p) else Whole p ∷ [])
readable_by law p h true e =
    pieces_readable p h (cut_tag law p.body (and_parts (is_node p.from && is_node p.to) (is_body p.body) h.in_range).1 h.state e)
readable_by law p h false e =
    All-cons IsReadable (Whole p) [] (record { in_range = h; is_short = not_cut (length_of p.body) e }) (All-nil IsReadable)

pub frames_readable : LengthsAreBounded → FramesAreReadable
frames_readable law p h = readable_by law p h (is_cut p.body) refl

-- So are those of packets one behind the other.
pub all_readable : FramesAreReadable → (ps : List PacketParts) → ArePackets ps → All IsReadable (flat_map frames_of ps)
all_readable law [] are = All-nil IsReadable
all_readable law (p ∷ ps) are =
    All-append IsReadable (frames_of p) (flat_map frames_of ps)
    (law p (are p (Contains-append_left (p ∷ []) ps p (zero, omega arith, refl))))
    (all_readable law ps (λ q i. are q (Contains-append_right (p ∷ []) ps q i)))
