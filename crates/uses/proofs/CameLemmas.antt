-- Frames that came, and what comes together of them.
use Rattle.std.proofs.Common.{◌≡◌, refl, sym, ap, subst, ◌∙◌, ℕ, zero, suc, ◌+◌, ◌<◌, ◌≤◌, Bool, true, false, inl, inr, arith}
use Rattle.std.proofs.Common.{List, [], ◌∷◌, map, length, Option, Some, None, Ok, Contains}
use Rattle.std.specs.Prelude.{slice_get, slice_index_or, nat_lt, All}
use Rattle.std.proofs.lemmas.Bool.{ltb-true, ltb-false}
use Rattle.std.proofs.lemmas.List.{length-map}
use Rattle.std.proofs.lemmas.List.Elements.{All-contains, Contains-append_cases, Contains-push_cases}
use Rattle.messages.specs.declared.frame.Frame.{Frame}
use Rattle.messages.specs.declared.packet.PacketParts.{PacketParts}
use Rattle.messages.specs.Assemblies.{Row, Look, Waits, Gives, NoPacket, look_at_frame, LookAnswers}
use Rattle.messages.specs.FrameBytes.{frame_at}
use Rattle.messages.specs.Laws.{IsPacket}
use Rattle.messages.specs.Pieces.{frames_of}
use Rattle.messages.specs.PieceLaws.{rows_of_frames, left_by, AreFramesOf, ArePackets, OneBodyOfEachTag, OnlySentIsGiven, PiecesGiveThePacket}
use Rattle.uses.proofs.GivenLemmas.{GaveNothing, first, behind, one_gives}

-- What bytes say came at their place, where they stand among the bytes that came.
pub came_at : (frames : List (List ℕ)) (came : List Frame) (i : ℕ) (bytes : List ℕ) (f : Frame) → map frame_at frames ≡ map Some came
    → slice_get frames i ≡ Some bytes → frame_at bytes ≡ Some f → slice_get came i ≡ Some f
came_at [] came i bytes f all at says = absurd cc
came_at (x ∷ xs) [] i bytes f all at says = absurd cc
came_at (x ∷ xs) (c ∷ cs) zero bytes f all at says = cc
came_at (x ∷ xs) (c ∷ cs) (suc i) bytes f all at says =
    let rest : map frame_at xs ≡ map Some cs = cc in
    came_at xs cs i bytes f rest at says

pub is_in : (came : List Frame) (i : ℕ) (f : Frame) → slice_get came i ≡ Some f → Contains came f
is_in [] i f at = absurd cc
is_in (c ∷ cs) zero f at = let is : c ≡ f = cc in subst (λ x. Contains (x ∷ cs) f) (sym is) (first f cs)
is_in (c ∷ cs) (suc i) f at = behind c cs f (is_in cs i f at)

placed : (came : List Frame) (k : ℕ) (f : Frame) → k < length came → slice_index_or came k f ≡ f → slice_get came k ≡ Some f
placed [] k f lt is = absurd (omega (arith, lt))
placed (c ∷ cs) zero f lt is = ap Some is
placed (c ∷ cs) (suc k) f lt is = placed cs k f (omega (arith, lt)) is

pub as_many : (frames : List (List ℕ)) (came : List Frame) → map frame_at frames ≡ map Some came → length came ≡ length frames
as_many frames came says = sym (length-map came Some) ∙ (ap (λ (xs : List (Option Frame)). length xs) (sym says) ∙ length-map frames frame_at)

-- What has come together is that of the frames that came before this place, the newest first, and they gave nothing.
pub record SoFar (came : List Frame) (index : ℕ) (rows : List Row) : Type 0 where
  pub frames : List Frame
  pub rows_are : rows ≡ rows_of_frames frames
  pub are_of : (f : Frame) → Contains frames f → Contains came f
  pub all : (k : ℕ) (f : Frame) → k < index → slice_get came k ≡ Some f → Contains frames f
  pub gave : GaveNothing frames

-- Nothing came at first.
none_yet : (f : Frame) → Contains [] f → ⊥
none_yet f none = omega (arith, none.1)

pub nothing : (came : List Frame) (rows : List Row) → rows ≡ [] → SoFar came 0 rows
nothing came rows is = record {
  frames = [];
  rows_are = is;
  are_of = λ f none. absurd (none_yet f none);
  all = λ k f lt. absurd (omega (arith, lt));
  gave = tt;
}

one_of : (came frames : List Frame) (f : Frame) → Contains came f → ((x : Frame) → Contains frames x → Contains came x) → (x : Frame)
    → Contains (f ∷ frames) x → Contains came x
one_of came frames f here before x is = elim (Contains-append_cases (f ∷ []) frames x is) [
  | inl first ↦ elim (Contains-push_cases [] f x first) [ inl none ↦ absurd (none_yet x none) | inr same ↦ subst (Contains came) same here ]
  | inr later ↦ before x later
]

-- One frame more, which gave nothing.
pub one_more : (came : List Frame) (index : ℕ) (rows new : List Row) (f : Frame) → SoFar came index rows → slice_get came index ≡ Some f
    → look_at_frame rows f ≡ Waits → new ≡ left_by rows f → SoFar came (index + 1) new
one_more came index rows new f so_far here waits is = record {
  frames = f ∷ so_far.frames;
  rows_are = is ∙ ap (λ r. left_by r f) so_far.rows_are;
  are_of = one_of came so_far.frames f (is_in came index f here) so_far.are_of;
  all = up_to;
  gave = (ap (λ r. look_at_frame r f) (sym so_far.rows_are) ∙ waits, so_far.gave);
}
  where
    at_last : (k : ℕ) (x : Frame) → k ≡ index → slice_get came k ≡ Some x → Contains (f ∷ so_far.frames) x
    at_last k x last at =
        let is : f ≡ x = cc in
        subst (λ y. Contains (y ∷ so_far.frames) x) (sym is) (first x so_far.frames)

    up_to : (k : ℕ) (x : Frame) → k < index + 1 → slice_get came k ≡ Some x → Contains (f ∷ so_far.frames) x
    up_to k x lt at = by_place (nat_lt k index) refl
      where
        by_place : (b : Bool) → nat_lt k index ≡ b → Contains (f ∷ so_far.frames) x
        by_place true before = behind f so_far.frames x (so_far.all k x (ltb-true k index before) at)
        by_place false before = at_last k x (omega (arith, lt, ltb-false k index before)) at

-- What a frame that gives no packet says: nothing yet.
pub gives_nothing : (l : Look) → LookAnswers (Ok None) l → l ≡ Waits
gives_nothing Waits is = refl
gives_nothing (Gives p) is = absurd cc
gives_nothing NoPacket is = absurd is

-- What a frame gives was sent.
pub given_was_sent : (sent : List PacketParts) (came : List Frame) (index : ℕ) (rows : List Row) (f : Frame) (p : PacketParts) → OnlySentIsGiven
    → ArePackets sent → OneBodyOfEachTag sent → AreFramesOf sent came
    → SoFar came index rows → Contains came f → LookAnswers (Ok (Some p)) (look_at_frame rows f) → Contains sent p
given_was_sent sent came index rows f p law packets tags frames so_far here gives =
    let same : look_at_frame rows f ≡ look_at_frame (rows_of_frames so_far.frames) f = ap (λ r. look_at_frame r f) so_far.rows_are in
    elim (law sent packets tags f so_far.frames (λ x is. frames x (one_of came so_far.frames f here so_far.are_of x is))) [
      | inl waits ↦ let none : LookAnswers (Ok (Some p)) Waits = subst (LookAnswers (Ok (Some p))) (same ∙ waits) gives in absurd cc
      | inr one ↦ let some : LookAnswers (Ok (Some p)) (Gives one.packet) = subst (LookAnswers (Ok (Some p))) (same ∙ one.gives) gives in
          let is : one.packet ≡ p = cc in subst (Contains sent) is one.was_sent
    ]

-- One packet alone was sent.
only_it : (p x : PacketParts) → Contains (p ∷ []) x → x ≡ p
only_it p x is = elim (Contains-push_cases [] p x is) [ inl none ↦ absurd (omega (arith, none.1)) | inr same ↦ sym same ]

pub alone : (p : PacketParts) → IsPacket p → ArePackets (p ∷ [])
alone p ranges x is = subst IsPacket (sym (only_it p x is)) ranges

pub alone_has_its_tag : (p : PacketParts) → OneBodyOfEachTag (p ∷ [])
alone_has_its_tag p x y is_x is_y cut_x cut_y same = ap (λ (z : PacketParts). z.body) (only_it p x is_x ∙ sym (only_it p y is_y))

-- The packet that is given where one packet was sent.
pub given_is_it : (p : PacketParts) (came : List Frame) (index : ℕ) (rows : List Row) (f : Frame) (x : PacketParts) → OnlySentIsGiven
    → IsPacket p → AreFramesOf (p ∷ []) came → SoFar came index rows → Contains came f → LookAnswers (Ok (Some x)) (look_at_frame rows f) → x ≡ p
given_is_it p came index rows f x law ranges frames so_far here gives =
    only_it p x (given_was_sent (p ∷ []) came index rows f x law (alone p ranges) (alone_has_its_tag p) frames so_far here gives)

-- All frames of a packet came, and gave nothing: that can't be.
pub not_nothing : (p : PacketParts) (came : List Frame) (index : ℕ) (rows : List Row) → PiecesGiveThePacket → IsPacket p → AreFramesOf (p ∷ []) came
    → All (Contains came) (frames_of p) → SoFar came index rows → length came ≤ index → ⊥
not_nothing p came index rows law ranges frames all so_far end = one_gives p so_far.frames law ranges of_it has_it so_far.gave
  where
    of_it : (f : Frame) → Contains so_far.frames f → Contains (frames_of p) f
    of_it f is =
        let from = frames f (so_far.are_of f is) in
        subst (λ x. Contains (frames_of x) f) (only_it p from.0 from.1) from.2

    has_it : (f : Frame) → Contains (frames_of p) f → Contains so_far.frames f
    has_it f is =
        let here = All-contains (Contains came) (frames_of p) f all is in
        so_far.all here.0 f (omega (arith, here.1, end)) (placed came here.0 f here.1 here.2)
