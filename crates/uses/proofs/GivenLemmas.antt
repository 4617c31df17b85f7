-- All frames of a packet came: one of them gave it.
use Rattle.std.proofs.Common.{◌≡◌, refl, sym, ◌∙◌, ap, subst, ℕ, zero, suc, ◌+◌, ◌<◌, Bool, true, false, ◌&&◌, arith}
use Rattle.std.proofs.Common.{List, [], ◌∷◌, map, length, Some, Contains}
use Rattle.std.specs.Prelude.{if◌then◌else◌, slice_index_or, ◌==◌, All}
use Rattle.std.proofs.lemmas.Bool.{eq-eqb, ltb-true, lt-ltb}
use Rattle.std.proofs.lemmas.List.Elements.{All-head, All-tail}
use Rattle.messages.specs.declared.limits.TheConstants.{CHUNK_LIMIT}
use Rattle.messages.specs.declared.frame.Frame.{Frame}
use Rattle.messages.specs.declared.frame.Frame.TheVariants.{Whole, Piece}
use Rattle.messages.specs.declared.packet.PacketParts.{PacketParts}
use Rattle.messages.specs.declared.piece.PieceParts.{PieceParts}
use Rattle.messages.specs.Assemblies.{Look, Waits, Gives, look_at_piece, look_at_frame, rows_after_piece}
use Rattle.messages.specs.Bodies.{length_of}
use Rattle.messages.specs.FrameBytes.{frame_at, frame_spelling}
use Rattle.messages.specs.FrameLaws.{IsReadable, FramesAreRead}
use Rattle.messages.specs.Laws.{IsPacket}
use Rattle.messages.specs.Pieces.{is_cut, places_from, places, pieces_of, piece_at, frames_of}
use Rattle.messages.specs.PieceLaws.{PiecesGiveThePacket, all_taken, has_place, has_places, rows_of_frames}

-- ---- elements of a list

pub first : {X : Type 0} (x : X) (xs : List X) → Contains (x ∷ xs) x
first x xs = (0, omega arith, refl)

pub behind : {X : Type 0} (x : X) (xs : List X) (y : X) → Contains xs y → Contains (x ∷ xs) y
behind x xs y h = (suc h.0, omega (arith, h.1), h.2)

mapped : {X Y : Type 0} (f : X → Y) (xs : List X) (x : X) (k : ℕ) → k < length xs → slice_index_or xs k x ≡ x → Contains (map f xs) (f x)
mapped f [] x k lt is = absurd (omega (arith, lt))
mapped f (y ∷ ys) x zero lt is = subst (λ z. Contains (f z ∷ map f ys) (f x)) (sym is) (first (f x) (map f ys))
mapped f (y ∷ ys) x (suc k) lt is = behind (f y) (map f ys) (f x) (mapped f ys x k (omega (arith, lt)) is)

-- Frames in their ranges are read back from their bytes.
pub read_back : FramesAreRead → (fs : List Frame) → All IsReadable fs → map frame_at (map frame_spelling fs) ≡ map Some fs
read_back law [] all = refl
read_back law (f ∷ fs) all =
    let this = All-head IsReadable f fs all in
    ap (λ x. x ∷ map frame_at (map frame_spelling fs)) (law f this.in_range this.is_short).1
    ∙ ap (λ xs. Some f ∷ xs) (read_back law fs (All-tail IsReadable f fs all))

-- ---- the pieces among frames

abbrev pieces_in : List Frame → List PieceParts
pieces_in [] = []
pieces_in (Whole p ∷ fs) = pieces_in fs
pieces_in (Piece q ∷ fs) = q ∷ pieces_in fs

taken_in : (fs : List Frame) → rows_of_frames fs ≡ all_taken [] (pieces_in fs)
taken_in [] = refl
taken_in (Whole p ∷ fs) = taken_in fs
taken_in (Piece q ∷ fs) = ap (λ rows. rows_after_piece rows q) (taken_in fs)

-- A piece among the frames is among their pieces.
among : (fs : List Frame) (q : PieceParts) (k : ℕ) → k < length fs → slice_index_or fs k (Piece q) ≡ Piece q → Contains (pieces_in fs) q
among [] q k lt is = absurd (omega (arith, lt))
among (Whole p ∷ fs) q zero lt is = absurd cc
among (Whole p ∷ fs) q (suc k) lt is = among fs q k (omega (arith, lt)) is
among (Piece r ∷ fs) q zero lt is =
    let same : r ≡ q = cc in
    subst (λ x. Contains (x ∷ pieces_in fs) q) (sym same) (first q (pieces_in fs))
among (Piece r ∷ fs) q (suc k) lt is = behind r (pieces_in fs) q (among fs q k (omega (arith, lt)) is)

-- The pieces of frames that are a packet's are that packet's.
of_packet : (xs : List PieceParts) (q : PieceParts) (k : ℕ) → k < length (map Piece xs) → slice_index_or (map Piece xs) k (Piece q) ≡ Piece q → Contains xs q
of_packet [] q k lt is = absurd (omega (arith, lt))
of_packet (x ∷ xs) q zero lt is =
    let same : x ≡ q = cc in
    subst (λ y. Contains (y ∷ xs) q) (sym same) (first q xs)
of_packet (x ∷ xs) q (suc k) lt is = behind x xs q (of_packet xs q k (omega (arith, lt)) is)

piece_among : (fs : List Frame) (q : PieceParts) (k : ℕ) → k < length (pieces_in fs) → slice_index_or (pieces_in fs) k q ≡ q → Contains fs (Piece q)
piece_among [] q k lt is = absurd (omega (arith, lt))
piece_among (Whole p ∷ fs) q k lt is = behind (Whole p) fs (Piece q) (piece_among fs q k lt is)
piece_among (Piece r ∷ fs) q zero lt is = subst (λ x. Contains (Piece x ∷ fs) (Piece q)) (sym is) (first (Piece q) fs)
piece_among (Piece r ∷ fs) q (suc k) lt is = behind (Piece r) fs (Piece q) (piece_among fs q k (omega (arith, lt)) is)

-- ---- places

one_place : (qs : List PieceParts) (q : PieceParts) (k : ℕ) → k < length qs → slice_index_or qs k q ≡ q → has_place qs q.at ≡ true
one_place [] q k lt is = absurd (omega (arith, lt))
one_place (x ∷ xs) q zero lt is = ap (λ b. if b then true else has_place xs q.at) (eq-eqb x.at q.at (ap (λ (y : PieceParts). y.at) is))
one_place (x ∷ xs) q (suc k) lt is = either (x.at == q.at) (one_place xs q k (omega (arith, lt)) is)
  where
    either : (b : Bool) → has_place xs q.at ≡ true → (if b then true else has_place xs q.at) ≡ true
    either true h = refl
    either false h = h

all_places : (qs : List PieceParts) (ats : List ℕ) → ((at : ℕ) → Contains ats at → has_place qs at ≡ true) → has_places qs ats ≡ true
all_places qs [] h = refl
all_places qs (at ∷ ats) h =
    ap (λ b. b && has_places qs ats) (h at (first at ats)) ∙ all_places qs ats (λ x is. h x (behind at ats x is))

-- ---- what gave nothing

-- Each of these frames, the newest first, gave nothing yet behind those before it.
abbrev pub GaveNothing : List Frame → Type 0
GaveNothing [] = Unit {0}
GaveNothing (f ∷ fs) = (look_at_frame (rows_of_frames fs) f ≡ Waits) × GaveNothing fs

no_whole : (fs : List Frame) (p : PacketParts) (k : ℕ) → GaveNothing fs → k < length fs → slice_index_or fs k (Whole p) ≡ Whole p → ⊥
no_whole [] p k gave lt is = omega (arith, lt)
no_whole (f ∷ fs) p zero gave lt is =
    let given : Gives p ≡ Waits = ap (look_at_frame (rows_of_frames fs)) (sym is) ∙ gave.0 in
    cc
no_whole (f ∷ fs) p (suc k) gave lt is = no_whole fs p k gave.1 (omega (arith, lt)) is

waits_for_more : (b : Bool) (p : PacketParts) (l : Look) → l ≡ Waits → l ≡ (if b then Gives p else Waits) → b ≡ false
waits_for_more true p l waits is = absurd cc
waits_for_more false p l waits is = refl

no_place : (len : ℕ) → CHUNK_LIMIT < len → has_places [] (places len) ≡ false
no_place zero lt = absurd (omega (arith, lt))
no_place (suc n) lt =
    ap (λ b. has_places [] (if b then 0 ∷ places_from n (0 + CHUNK_LIMIT) (suc n) else [])) (lt-ltb 0 (suc n) (omega arith))

-- The pieces of a packet that gave nothing lack a place.
lack_one : (p : PacketParts) → PiecesGiveThePacket → IsPacket p → is_cut p.body ≡ true → has_places [] (places (length_of p.body)) ≡ false
    → (fs : List Frame) → ((q : PieceParts) → Contains (pieces_in fs) q → Contains (pieces_of p) q) → GaveNothing fs
    → has_places (pieces_in fs) (places (length_of p.body)) ≡ false
lack_one p law ranges cut none [] are gave = none
lack_one p law ranges cut none (Whole r ∷ fs) are gave = lack_one p law ranges cut none fs are gave.1
lack_one p law ranges cut none (Piece q ∷ fs) are gave =
    let qs = pieces_in fs in
    let lacks = lack_one p law ranges cut none fs (λ x is. are x (behind q qs x is)) gave.1 in
    let looks = law p ranges cut [] refl qs (λ x is. are x (behind q qs x is)) lacks q (are q (first q qs)) in
    waits_for_more (has_places (q ∷ qs) (places (length_of p.body))) p (look_at_piece (all_taken [] qs) q)
    (ap (λ rows. look_at_piece rows q) (sym (taken_in fs)) ∙ gave.0) looks

-- Where all frames of a packet came, and no others, one gave something.
pub one_gives : (p : PacketParts) (fs : List Frame) → PiecesGiveThePacket → IsPacket p → ((f : Frame) → Contains fs f → Contains (frames_of p) f)
    → ((f : Frame) → Contains (frames_of p) f → Contains fs f) → GaveNothing fs → ⊥
one_gives p fs law ranges are all gave = by_cut (is_cut p.body) refl
  where
    frames_by : Bool → List Frame
    frames_by cut = if cut then map Piece (pieces_of p) else Whole p ∷ []

    whole : frames_of p ≡ Whole p ∷ [] → ⊥
    whole frames =
        let here = all (Whole p) (subst (λ xs. Contains xs (Whole p)) (sym frames) (first (Whole p) [])) in
        no_whole fs p here.0 gave here.1 here.2

    of_it : frames_of p ≡ map Piece (pieces_of p) → (q : PieceParts) → Contains (pieces_in fs) q → Contains (pieces_of p) q
    of_it frames q is =
        let it = subst (λ xs. Contains xs (Piece q)) frames (are (Piece q) (piece_among fs q is.0 is.1 is.2)) in
        of_packet (pieces_of p) q it.0 it.1 it.2

    has_it : frames_of p ≡ map Piece (pieces_of p) → (at : ℕ) → Contains (places (length_of p.body)) at → has_place (pieces_in fs) at ≡ true
    has_it frames at is =
        let q = piece_at p at in
        let piece = mapped (piece_at p) (places (length_of p.body)) at is.0 is.1 is.2 in
        let frame = mapped Piece (pieces_of p) q piece.0 piece.1 piece.2 in
        let came = all (Piece q) (subst (λ xs. Contains xs (Piece q)) (sym frames) frame) in
        let it = among fs q came.0 came.1 came.2 in
        one_place (pieces_in fs) q it.0 it.1 it.2

    pieces : is_cut p.body ≡ true → frames_of p ≡ map Piece (pieces_of p) → ⊥
    pieces cut frames =
        let none = no_place (length_of p.body) (ltb-true CHUNK_LIMIT (length_of p.body) cut) in
        let lacks = lack_one p law ranges cut none fs (of_it frames) gave in
        let has = all_places (pieces_in fs) (places (length_of p.body)) (has_it frames) in
        let both : true ≡ false = sym has ∙ lacks in
        cc

    by_cut : (b : Bool) → is_cut p.body ≡ b → ⊥
    by_cut true cut = pieces cut (ap frames_by cut)
    by_cut false cut = whole (ap frames_by cut)
