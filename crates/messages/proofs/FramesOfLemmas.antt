-- The frames of a packet: their bytes one behind the other, and how many they are.
use Rattle.std.proofs.Common.{◌≡◌, refl, sym, ◌∙◌, ap, subst, ℕ, zero, suc, ◌+◌, ◌-◌, ◌*◌, ◌<◌, ◌≤◌, arith}
use Rattle.std.proofs.Common.{Bool, true, false, List, [], ◌∷◌, ◌++◌, length, drop, Some, append_assoc}
use Rattle.std.specs.Prelude.{if◌then◌else◌, nat_lt, sum_by, map, All, slice_get, slice_index, slice_range, Result, Ok, Err, IfOk}
use Rattle.std.proofs.lemmas.Bool.Decides.{nat_tests}
use Rattle.std.proofs.lemmas.List.{drop_at, length-append, length-take, length-drop, length-map}
use Rattle.std.proofs.lemmas.List.{take_all, drop-drop, take-append-le, drop-append-le, append-nil}
use Rattle.std.proofs.lemmas.List.Elements.{All-nil, All-cons}
use Rattle.std.proofs.lemmas.List.Sums.{sum_by-cons}
use Rattle.messages.specs.declared.node.Node.{Node}
use Rattle.messages.specs.declared.piece.Tag.{Tag}
use Rattle.messages.specs.declared.piece.PieceParts.{PieceParts}
use Rattle.messages.specs.declared.packet.PacketParts.{PacketParts}
use Rattle.messages.specs.declared.frame.Frame.TheVariants.{Piece}
use Rattle.messages.specs.Bodies.{length_of, spelled_body}
use Rattle.messages.specs.Packets.{header_of, spelling}
use Rattle.fc_base.specs.Layouts.{spelled}
use Rattle.messages.specs.declared.limits.TheConstants.{CHUNK_LIMIT, MAX_BODY, MAX_FRAME, PIECE_HEAD}
use Rattle.messages.specs.Pieces.{is_cut, tag_in, tag_of, places_from, places, cut_at, piece_at, pieces_of}
use Rattle.messages.specs.FrameBytes.{piece_spelling, frame_spelling}
use Rattle.messages.specs.FramesOf.{parts_between, RiseTo, spelled_piece, spelled_frames, AreFew}
use Rattle.messages.proofs.BodyLemmas.{length-spelled_body}
use Rattle.messages.proofs.FrameLemmas.{length-header_of, length-piece_spelling}

pub length-parted : (start : ℕ) (ends bytes : List ℕ) → length (parts_between start ends bytes) ≡ length ends
length-parted start [] bytes = refl
length-parted start (end ∷ ends) bytes = ap suc (length-parted end ends bytes)

pub parted_get : (start : ℕ) (ends b : List ℕ) (i : ℕ) → i < length ends
    → slice_get (parts_between start ends b) i ≡ Some (slice_range b (slice_index (start ∷ ends) i) (slice_index ends i))
parted_get start [] b i h = absurd (omega (arith, h))
parted_get start (end ∷ ends) b zero h = refl
parted_get start (end ∷ ends) b (suc i) h = parted_get end ends b i (omega (arith, h))

-- Places that rise lie between the first and the last.
pub rise_le : (start : ℕ) (ends : List ℕ) (last : ℕ) → RiseTo start ends last → start ≤ last
rise_le start [] last h = omega (arith, h)
rise_le start (end ∷ ends) last h = omega (arith, h.0, rise_le end ends last h.1)

pub rise_at : (start : ℕ) (ends : List ℕ) (last i : ℕ) → RiseTo start ends last → i < length ends
    → (slice_index (start ∷ ends) i ≤ slice_index ends i) × (slice_index ends i ≤ last)
rise_at start [] last i h below = absurd (omega (arith, below))
rise_at start (end ∷ ends) last zero h below = (h.0, rise_le end ends last h.1)
rise_at start (end ∷ ends) last (suc i) h below = rise_at end ends last i h.1 (omega (arith, below))

rise_append : (start : ℕ) (ends : List ℕ) (mid : ℕ) (more : List ℕ) (last : ℕ) → RiseTo start ends mid → RiseTo mid more last → RiseTo start (ends ++ more) last
rise_append start [] mid more last h m = subst (λ (n : ℕ). RiseTo n more last) (sym h) m
rise_append start (end ∷ ends) mid more last h m = (h.0, rise_append end ends mid more last h.1 m)

rise_behind : (n start : ℕ) (ends : List ℕ) (last at to : ℕ) → RiseTo start ends last → at ≡ n + start → to ≡ n + last
    → RiseTo at (map (λ end. n + end) ends) to
rise_behind n start [] last at to h at_is to_is = omega (arith, h, at_is, to_is)
rise_behind n start (end ∷ ends) last at to h at_is to_is = (omega (arith, h.0, at_is), rise_behind n end ends last (n + end) to h.1 refl to_is)

pub rise_fits : (start : ℕ) (ends : List ℕ) (last n limit : ℕ) → RiseTo start ends last → n + last < limit → All (λ end. n + end < limit) ends
rise_fits start [] last n limit h fits = All-nil (λ (end : ℕ). n + end < limit)
rise_fits start (end ∷ ends) last n limit h fits =
    All-cons (λ (end : ℕ). n + end < limit) end ends (omega (arith, fits, rise_le end ends last h.1)) (rise_fits end ends last n limit h.1 fits)

-- Parts of bytes with more behind them, of bytes with more before them, and parts one behind the other.
parted_before : (start : ℕ) (ends b c : List ℕ) → RiseTo start ends (length b) → parts_between start ends (b ++ c) ≡ parts_between start ends b
parted_before start [] b c h = refl
parted_before start (end ∷ ends) b c h =
    let to : end ≤ length b = rise_le end ends (length b) h.1 in
    let from : start ≤ length b = omega (arith, h.0, to) in
    let part : end - start ≤ length (drop start b) = omega (arith, to, length-drop start b) in
    rw (drop-append-le start b c from, take-append-le (end - start) (drop start b) c part)
    (ap (λ (xs : List (List ℕ)). slice_range b start end ∷ xs) (parted_before end ends b c h.1))

parted_behind : (b c : List ℕ) (at start : ℕ) (ends : List ℕ) → at ≡ length b + start
    → parts_between at (map (λ end. length b + end) ends) (b ++ c) ≡ parts_between start ends c
parted_behind b c at start [] at_is = refl
parted_behind b c at start (end ∷ ends) at_is =
    let len : length b + end - at ≡ end - start = omega (arith, at_is) in
    let from : drop at (b ++ c) ≡ drop start c =
    ap (λ (n : ℕ). drop n (b ++ c)) at_is ∙ sym (drop-drop start (length b) (b ++ c)) ∙ ap (λ (bs : List ℕ). drop start bs) (drop_at b c (length b) refl) in
    rw (len, from) (ap (λ (xs : List (List ℕ)). slice_range c start end ∷ xs) (parted_behind b c (length b + end) end ends refl))

parted_two : (start : ℕ) (ends : List ℕ) (mid : ℕ) (more bytes : List ℕ) → RiseTo start ends mid
    → parts_between start (ends ++ more) bytes ≡ parts_between start ends bytes ++ parts_between mid more bytes
parted_two start [] mid more bytes h = ap (λ (n : ℕ). parts_between n more bytes) h
parted_two start (end ∷ ends) mid more bytes h = ap (λ (xs : List (List ℕ)). slice_range bytes start end ∷ xs) (parted_two end ends mid more bytes h.1)

-- The part that is all of the bytes.
whole : (b : List ℕ) → slice_range b 0 (length b) ≡ b
whole b = take_all (length b - 0) b (omega arith)

-- Frames behind frames.
pub parted_append : (ends others b c : List ℕ) → RiseTo 0 ends (length b)
    → parts_between 0 (ends ++ map (λ end. length b + end) others) (b ++ c) ≡ parts_between 0 ends b ++ parts_between 0 others c
parted_append ends others b c h =
    let at : length b ≡ length b + 0 = omega arith in
    parted_two 0 ends (length b) (map (λ end. length b + end) others) (b ++ c) h
    ∙ ap (λ (fs : List (List ℕ)). fs ++ parts_between (length b) (map (λ end. length b + end) others) (b ++ c)) (parted_before 0 ends b c h)
    ∙ ap (λ (fs : List (List ℕ)). parts_between 0 ends b ++ fs) (parted_behind b c (length b) 0 others at)

pub rise_both : (ends others b c : List ℕ) → RiseTo 0 ends (length b) → RiseTo 0 others (length c)
    → RiseTo 0 (ends ++ map (λ end. length b + end) others) (length (b ++ c))
rise_both ends others b c h m =
    let at : length b ≡ length b + 0 = omega arith in
    rise_append 0 ends (length b) (map (λ end. length b + end) others) (length (b ++ c)) h
    (rise_behind (length b) 0 others (length c) (length b) (length (b ++ c)) m at (length-append b c))

-- The places from one on.
pub one_place : (n at len : ℕ) → at < len → places_from (suc n) at len ≡ at ∷ places_from n (at + CHUNK_LIMIT) len
one_place n at len h = let t : nat_lt at len ≡ true = grind (arith, nat_tests) in rw t refl

pub no_place : (n at len : ℕ) → len ≤ at → places_from n at len ≡ []
no_place zero at len h = refl
no_place (suc n) at len h = let t : nat_lt at len ≡ false = grind (arith, nat_tests) in rw t refl

few_from : (n at len : ℕ) (t : Bool) → nat_lt at len ≡ t
    → (at + CHUNK_LIMIT < len + CHUNK_LIMIT → CHUNK_LIMIT * length (places_from n (at + CHUNK_LIMIT) len) ≤ len + 1023 - (at + CHUNK_LIMIT))
    → CHUNK_LIMIT * length (if t then at ∷ places_from n (at + CHUNK_LIMIT) len else []) ≤ len + 1023 - at
few_from n at len true e h = let lt : at < len = grind (arith, nat_tests) in omega (arith, h)
few_from n at len false e h = omega arith

pub places_few : (n at len : ℕ) → CHUNK_LIMIT * length (places_from n at len) ≤ len + 1023 - at
places_few zero at len = omega arith
places_few (suc n) at len = few_from n at len (nat_lt at len) refl (λ lt. places_few n (at + CHUNK_LIMIT) len)

spelled_each : (xs : List PieceParts) → map frame_spelling (map Piece xs) ≡ map piece_spelling xs
spelled_each [] = refl
spelled_each (x ∷ xs) = ap (λ (ys : List (List ℕ)). piece_spelling x ∷ ys) (spelled_each xs)

spelled_places : (p : PacketParts) (ats : List ℕ) → map piece_spelling (map (piece_at p) ats)
    ≡ map (spelled_piece p.from p.to (tag_of p.body) (spelled_body p.body)) ats
spelled_places p [] = refl
spelled_places p (at ∷ ats) = ap (λ (ys : List (List ℕ)). piece_spelling (piece_at p at) ∷ ys) (spelled_places p ats)

frames_by : (p : PacketParts) (t : Bool) → is_cut p.body ≡ t
    → spelled_frames p ≡ (if t then map (spelled_piece p.from p.to (tag_of p.body) (spelled_body p.body)) (places (length_of p.body)) else spelling p ∷ [])
frames_by p true e = rw e (spelled_each (pieces_of p) ∙ spelled_places p (places (length_of p.body)))
frames_by p false e = rw e refl

-- The frames of a packet that isn't cut, and of one that is.
pub frames_whole : (p : PacketParts) → length_of p.body ≤ CHUNK_LIMIT → spelled_frames p ≡ spelling p ∷ []
frames_whole p h = let t : is_cut p.body ≡ false = grind (arith, nat_tests) in frames_by p false t

pub frames_cut : (p : PacketParts) → CHUNK_LIMIT < length_of p.body
    → spelled_frames p ≡ map (spelled_piece p.from p.to (tag_of p.body) (spelled_body p.body)) (places (length_of p.body))
frames_cut p h = let t : is_cut p.body ≡ true = grind (arith, nat_tests) in frames_by p true t

-- What pieces have together.

one_short : (from to : Node) (tag : Tag) (b : List ℕ) (at : ℕ) → length (spelled_piece from to tag b at) ≤ MAX_FRAME
one_short from to tag b at = omega (arith, length-piece_spelling (cut_at from to tag b at), length-take CHUNK_LIMIT (drop at b))

all_short : (from to : Node) (tag : Tag) (b ats : List ℕ) → All (λ frame. length frame ≤ MAX_FRAME) (map (spelled_piece from to tag b) ats)
all_short from to tag b [] = All-nil (λ (frame : List ℕ). length frame ≤ MAX_FRAME)
all_short from to tag b (at ∷ ats) = All-cons (λ (frame : List ℕ). length frame ≤ MAX_FRAME) (spelled_piece from to tag b at)
    (map (spelled_piece from to tag b) ats) (one_short from to tag b at) (all_short from to tag b ats)

sum_from : (from to : Node) (tag : Tag) (b : List ℕ) (n at : ℕ) (t : Bool) → nat_lt at (length b) ≡ t
    → (sum_by (λ (frame : List ℕ). length frame) (map (spelled_piece from to tag b) (places_from n (at + CHUNK_LIMIT) (length b)))
    ≤ (length b - (at + CHUNK_LIMIT)) + PIECE_HEAD * length (places_from n (at + CHUNK_LIMIT) (length b)))
    → sum_by (λ (frame : List ℕ). length frame) (map (spelled_piece from to tag b) (if t then at ∷ places_from n (at + CHUNK_LIMIT) (length b) else []))
    ≤ (length b - at) + PIECE_HEAD * length (if t then at ∷ places_from n (at + CHUNK_LIMIT) (length b) else [])
sum_from from to tag b n at true e h =
    let lt : at < length b = grind (arith, nat_tests) in
    let rest = places_from n (at + CHUNK_LIMIT) (length b) in
    omega (
      arith,
      h,
      sum_by-cons (λ (frame : List ℕ). length frame) (spelled_piece from to tag b at) (map (spelled_piece from to tag b) rest),
      length-piece_spelling (cut_at from to tag b at),
      length-take CHUNK_LIMIT (drop at b),
      length-drop at b,
    )
sum_from from to tag b n at false e h = omega arith

sum_places : (from to : Node) (tag : Tag) (b : List ℕ) (n at : ℕ)
    → sum_by (λ (frame : List ℕ). length frame) (map (spelled_piece from to tag b) (places_from n at (length b)))
    ≤ (length b - at) + PIECE_HEAD * length (places_from n at (length b))
sum_places from to tag b zero at = omega arith
sum_places from to tag b (suc n) at = sum_from from to tag b n at (nat_lt at (length b)) refl (sum_places from to tag b n (at + CHUNK_LIMIT))

pub length-spelling : (p : PacketParts) → length (spelling p) ≡ 16 + length_of p.body
length-spelling p = omega (
  arith,
  length-append (header_of p.from p.to p.body (length_of p.body)) (spelled_body p.body),
  length-header_of p.from p.to p.body (length_of p.body),
  length-spelled_body p.body,
)

few_whole : (p : PacketParts) → length_of p.body ≤ CHUNK_LIMIT → AreFew p (spelling p ∷ [])
few_whole p h = record {
  few = omega arith;
  short = All-cons (λ (frame : List ℕ). length frame ≤ MAX_FRAME) (spelling p)
      [] (omega (arith, length-spelling p)) (All-nil (λ (frame : List ℕ). length frame ≤ MAX_FRAME));
  total = omega (arith, length-spelling p, sum_by-cons (λ (frame : List ℕ). length frame) (spelling p) []);
}

few_cut : (p : PacketParts) → length_of p.body ≤ MAX_BODY
    → AreFew p (map (spelled_piece p.from p.to (tag_of p.body) (spelled_body p.body)) (places (length_of p.body)))
few_cut p h =
    let pieces = spelled_piece p.from p.to (tag_of p.body) (spelled_body p.body) in
    let many = length-map (places (length_of p.body)) pieces in
    let len = length-spelled_body p.body in
    let total = subst (λ (n : ℕ). sum_by (λ (frame : List ℕ). length frame) (map pieces (places_from n 0 n))
    ≤ (n - 0) + PIECE_HEAD * length (places_from n 0 n)) len
    (sum_places p.from p.to (tag_of p.body) (spelled_body p.body) (length (spelled_body p.body)) 0) in
    record {
      few = omega (arith, many, places_few (length_of p.body) 0 (length_of p.body));
      short = all_short p.from p.to (tag_of p.body) (spelled_body p.body) (places (length_of p.body));
      total = omega (arith, many, total);
    }

by_length : (p : PacketParts) (t : Bool) → is_cut p.body ≡ t → length_of p.body ≤ MAX_BODY → AreFew p (spelled_frames p)
by_length p true e h = let lt : CHUNK_LIMIT < length_of p.body = grind (arith, nat_tests) in rw (frames_cut p lt) (few_cut p h)
by_length p false e h = let le : length_of p.body ≤ CHUNK_LIMIT = grind (arith, nat_tests) in rw (frames_whole p le) (few_whole p le)

pub frames_few : (p : PacketParts) → length_of p.body ≤ MAX_BODY → AreFew p (spelled_frames p)
frames_few p h = by_length p (is_cut p.body) refl h

-- What the code shows.

pub get_in : (ends known : List ℕ) (last i start : ℕ) → RiseTo 0 ends last → known ≡ ends → i < length known → start ≡ slice_index (0 ∷ known) i
    → (start ≤ slice_index known i) × (slice_index known i ≤ last)
get_in ends known last i start rise known_is below start_is = rw start_is (rise_at 0 known last i (rw known_is rise) below)

pub get_is : (ends b known bytes : List ℕ) (i start : ℕ) → known ≡ ends → bytes ≡ b → i < length known → start ≡ slice_index (0 ∷ known) i
    → slice_get (parts_between 0 ends b) i ≡ Some (slice_range bytes start (slice_index known i))
get_is ends b known bytes i start known_is bytes_is below start_is = rw (← known_is, ← bytes_is, start_is) (parted_get 0 known bytes i below)

pub more_ends : (ends others old known new b bytes : List ℕ) → new ≡ old ++ map (λ end. length bytes + end) known → old ≡ ends → known ≡ others → bytes ≡ b
    → new ≡ ends ++ map (λ end. length b + end) others
more_ends ends others old known new b bytes new_is old_is known_is bytes_is = rw (← old_is, ← known_is, ← bytes_is) new_is

pub appended : (ends others b c new_ends new_bytes : List ℕ) (old other : List (List ℕ)) → new_ends ≡ ends ++ map (λ end. length b + end) others
    → new_bytes ≡ b ++ c → RiseTo 0 ends (length b)
    → parts_between 0 ends b ≡ old → parts_between 0 others c ≡ other → parts_between 0 new_ends new_bytes ≡ old ++ other
appended ends others b c new_ends new_bytes old other ends_are bytes_are rise old_is other_is =
    rw (ends_are, bytes_are, ← old_is, ← other_is) (parted_append ends others b c rise)

pub piece_short : (out before : List ℕ) (q : PieceParts) → before ≡ [] → out ≡ before ++ piece_spelling q → length q.bytes ≤ CHUNK_LIMIT
    → length out ≤ MAX_FRAME
piece_short out before q none e h = omega (arith, ap length e, length-append before (piece_spelling q), ap length none, length-piece_spelling q)

-- The pieces so far, and those that are still to come.
pub record IsCutting (piece : ℕ → List ℕ) (len at : ℕ) (ends bytes : List ℕ) : Type 0 where
  pub rise : RiseTo 0 ends (length bytes)
  pub left : ℕ
  pub enough : len ≤ at + left
  pub rest : parts_between 0 ends bytes ++ map piece (places_from left at len) ≡ map piece (places len)

pub cut_none : (piece : ℕ → List ℕ) (len : ℕ) (ends bytes : List ℕ) → ends ≡ [] → bytes ≡ [] → IsCutting piece len 0 ends bytes
cut_none piece len ends bytes no_ends no_bytes = rw (no_ends, no_bytes) (record { rise = refl; left = len; enough = omega arith; rest = refl })

cut_step : (piece : ℕ → List ℕ) (len at left : ℕ) (ends bytes : List ℕ) → RiseTo 0 ends (length bytes) → at < len → len ≤ at + left
    → parts_between 0 ends bytes ++ map piece (places_from left at len) ≡ map piece (places len)
    → IsCutting piece len (at + CHUNK_LIMIT) (ends ++ (length bytes + length (piece at)) ∷ []) (bytes ++ piece at)
cut_step piece len at zero ends bytes rise lt enough rest = absurd (omega (arith, lt, enough))
cut_step piece len at (suc left) ends bytes rise lt enough rest = record {
  rise = rise_both ends (length (piece at) ∷ []) bytes (piece at) rise (omega arith, refl);
  left = left;
  enough = omega (arith, enough);
  rest =
      ap (λ (xs : List (List ℕ)). xs ++ map piece (places_from left (at + CHUNK_LIMIT) len)) (parted_append ends (length (piece at) ∷ []) bytes (piece at) rise)
      ∙ ap (λ (x : List ℕ). parts_between 0 ends bytes ++ x ∷ [] ++ map piece (places_from left (at + CHUNK_LIMIT) len)) (whole (piece at))
      ∙ append_assoc (parts_between 0 ends bytes) (piece at ∷ []) (map piece (places_from left (at + CHUNK_LIMIT) len))
      ∙ ap (λ (ats : List ℕ). parts_between 0 ends bytes ++ map piece ats) (sym (one_place left at len lt))
      ∙ rest;
}

pub cut_one : (piece : ℕ → List ℕ) (len at end : ℕ) (ends bytes new_ends new_bytes : List ℕ) → IsCutting piece len at ends bytes → at < len
    → end ≡ length new_bytes → new_ends ≡ ends ++ end ∷ [] → new_bytes ≡ bytes ++ piece at → IsCutting piece len (at + CHUNK_LIMIT) new_ends new_bytes
cut_one piece len at end ends bytes new_ends new_bytes so_far lt end_is ends_are bytes_are =
    let to : end ≡ length bytes + length (piece at) = end_is ∙ ap length bytes_are ∙ length-append bytes (piece at) in
    rw (ends_are, bytes_are, to) (cut_step piece len at so_far.left ends bytes so_far.rise lt so_far.enough so_far.rest)

pub cut_all : (piece : ℕ → List ℕ) (len at : ℕ) (ends bytes : List ℕ) → IsCutting piece len at ends bytes → len ≤ at
    → parts_between 0 ends bytes ≡ map piece (places len)
cut_all piece len at ends bytes so_far h =
    sym (append-nil (parts_between 0 ends bytes)) ∙ ap (λ (ats : List ℕ). parts_between 0 ends bytes ++ map piece ats) (sym (no_place so_far.left at len h))
    ∙ so_far.rest

pub body_in : (p : PacketParts) (bytes body : List ℕ) → bytes ≡ spelling p → body ≡ drop 16 bytes → body ≡ spelled_body p.body
body_in p bytes body spelled is =
    is ∙ ap (λ (bs : List ℕ). drop 16 bs) spelled
    ∙ drop_at (header_of p.from p.to p.body (length_of p.body)) (spelled_body p.body) 16 (length-header_of p.from p.to p.body (length_of p.body))

pub cut_frames : (p : PacketParts) (body : List ℕ) → body ≡ spelled_body p.body → CHUNK_LIMIT < length_of p.body
    → map (spelled_piece p.from p.to (tag_in p.body (length body)) body) (places (length body)) ≡ spelled_frames p
cut_frames p body is h =
    ap (λ (bs : List ℕ). map (spelled_piece p.from p.to (tag_in p.body (length bs)) bs) (places (length bs))) is
    ∙ ap (λ (n : ℕ). map (spelled_piece p.from p.to (tag_in p.body n) (spelled_body p.body)) (places n)) (length-spelled_body p.body)
    ∙ sym (frames_cut p h)

pub ok_few : {E : Type 0} (p : PacketParts) (r : Result (List (List ℕ)) E) → IfOk r (λ frames. frames ≡ spelled_frames p) → length_of p.body ≤ MAX_BODY
    → IfOk r (AreFew p)
ok_few p (Ok frames) e h = rw e (frames_few p h)
ok_few p (Err x) e h = tt
