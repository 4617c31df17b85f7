-- What holds of the words of a tour, and of the tiles that a word isn't of.
use Rattle.std.proofs.Common.{◌≡◌, ◌<◌, ◌≤◌, ℕ, suc, Bool, true, false, not, ◌&&◌, ◌||◌, ◌==◌, List, [], ◌∷◌, ◌++◌, Option}
use Rattle.std.proofs.Common.{Some, None, append-nil, refl, sym, ap, ◌∙◌, subst, inl, inr, arith}
use Rattle.std.specs.List.{All, AllPairs}
use Rattle.std.proofs.lemmas.Bool.{cases_Bool, eq-eqb, eqb-true}
use Rattle.std.proofs.lemmas.List.Elements.{All-nil, All-push, All-filter, filter-append}
use Rattle.std.proofs.lemmas.List.Kept.{AllPairs-filter}
use Rattle.std.proofs.lemmas.List.Quantifiers.{all_pairs_push}
use Rattle.fc_base.specs.Counted.{has}
use Rattle.fc_base.specs.NumberLaws.{has_push, has_filter}
use Rattle.fc_base.specs.declared.record.JobParts.{JobParts}
use Rattle.targets.specs.declared.notice.Notice.TheVariants.{Done, Failed, Take}
use Rattle.targets.specs.declared.tour_word.TourWord.{TourWord}
use Rattle.targets.specs.declared.tour_word.TourWord.TheVariants.{Begin, Told}
use Rattle.targets.specs.TourWords.{begun, run_of, open_tiles, told_of}
use Rattle.targets.specs.Tours.{Piece, pieces_of, tile_of, IsAnyTile, IsTour, MayCome}

-- Words that each may come behind those before it.
abbrev pub AreWords : List TourWord → Type 0
AreWords [] = Unit {0}
AreWords (w ∷ ws) = AreWords ws × MayCome ws w

pub words_may_come : (number : ℕ) (job : JobParts) (words : List TourWord) (pieces : List Piece) → IsTour number job words pieces → AreWords words
words_may_come number job [] pieces tour = tt
words_may_come number job (w ∷ ws) pieces (before, more, tour, may, same, tiles) = (words_may_come number job ws before tour, may)

pub has_all : (P : ℕ → Type 0) (xs : List ℕ) (t : ℕ) → All P xs → has xs t ≡ true → P t
has_all P [] t all h = absurd cc
has_all P (x ∷ xs) t all h = elim (cases_Bool (x == t)) [
  | inl e ↦ subst P (eqb-true x t e) (all 0 x (omega arith))
  | inr e ↦
      let later : has xs t ≡ true = rw e at h in
      has_all P xs t (λ k d l. all (suc k) d (omega (arith, l))) later
]

-- Each open tile was begun.
pub open_below : (words : List TourWord) → AreWords words → All (λ t. t < begun words) (open_tiles words)
open_below [] are = All-nil _
open_below (Begin tile run ∷ ws) (are, may) =
    All-push (λ t. t < suc (begun ws)) (open_tiles ws) tile (λ k d l. omega (arith, open_below ws are k d l)) (omega (arith, may.0))
open_below (Told tile (Done k) ∷ ws) (are, may) = open_below ws are
open_below (Told tile (Failed k) ∷ ws) (are, may) = open_below ws are
open_below (Told tile Take ∷ ws) (are, may) = All-filter (λ j. not (j == tile)) (λ t. t < begun ws) (open_tiles ws) (open_below ws are)

-- They stand in the order of their numbers.
pub open_ascend : (words : List TourWord) → AreWords words → AllPairs (λ a b. a < b) (open_tiles words)
open_ascend [] are = λ i j d a b. absurd (omega (arith, b))
open_ascend (Begin tile run ∷ ws) (are, may) =
    all_pairs_push (λ a b. a < b) (open_tiles ws) tile (open_ascend ws are) (λ k d l. omega (arith, open_below ws are k d l, may.0))
open_ascend (Told tile (Done k) ∷ ws) (are, may) = open_ascend ws are
open_ascend (Told tile (Failed k) ∷ ws) (are, may) = open_ascend ws are
open_ascend (Told tile Take ∷ ws) (are, may) = AllPairs-filter (λ a b. a < b) (λ j. not (j == tile)) (open_tiles ws) (open_ascend ws are)

-- A tile that wasn't begun has no run, and nothing was told of it.
pub record IsUnborn (words : List TourWord) (t : ℕ) : Type 0 where
  pub no_run : run_of words t ≡ None
  pub untold : told_of words t ≡ []

other : (a b : ℕ) → a < b → (a == b) ≡ false
other a b h = elim (cases_Bool (a == b)) [
  | inl e ↦ absurd (omega (arith, h, eqb-true a b e))
  | inr e ↦ e
]

pub unborn : (words : List TourWord) (t : ℕ) → AreWords words → begun words ≤ t → IsUnborn words t
unborn [] t are late = record { no_run = refl; untold = refl }
unborn (Begin tile run ∷ ws) t (are, may) late =
    let rest = unborn ws t are (omega (arith, late)) in
    let is_other = other tile t (omega (arith, may.0, late)) in
    record { no_run = rw (is_other) rest.no_run; untold = rest.untold }
unborn (Told tile (Done k) ∷ ws) t (are, may) late =
    let rest = unborn ws t are late in
    let is_other = other tile t (omega (arith, has_all (λ u. u < begun ws) (open_tiles ws) tile (open_below ws are) may, late)) in
    record { no_run = rest.no_run; untold = rw (is_other) rest.untold }
unborn (Told tile (Failed k) ∷ ws) t (are, may) late =
    let rest = unborn ws t are late in
    let is_other = other tile t (omega (arith, has_all (λ u. u < begun ws) (open_tiles ws) tile (open_below ws are) may, late)) in
    record { no_run = rest.no_run; untold = rw (is_other) rest.untold }
unborn (Told tile Take ∷ ws) t (are, may) late =
    let rest = unborn ws t are late in
    record { no_run = rest.no_run; untold = rest.untold }

-- ---- the tiles that a word isn't of

abbrev pub word_tile : TourWord → ℕ
word_tile (Begin tile run) = tile
word_tile (Told tile n) = tile

pub run_apart : (w : TourWord) (ws : List TourWord) (t : ℕ) → (word_tile w == t) ≡ false → run_of (w ∷ ws) t ≡ run_of ws t
run_apart (Begin tile run) ws t e = rw e refl
run_apart (Told tile n) ws t e = refl

pub told_apart : (w : TourWord) (ws : List TourWord) (t : ℕ) → (word_tile w == t) ≡ false → told_of (w ∷ ws) t ≡ told_of ws t
told_apart (Begin tile run) ws t e = refl
told_apart (Told tile (Done k)) ws t e = rw e refl
told_apart (Told tile (Failed k)) ws t e = rw e refl
told_apart (Told tile Take) ws t e = refl

swapped : (a b : ℕ) → (a == b) ≡ false → (b == a) ≡ false
swapped a b e = elim (cases_Bool (b == a)) [
  | inl f ↦ let own : (a == b) ≡ true = eq-eqb a b (sym (eqb-true b a f)) in absurd cc
  | inr f ↦ f
]

pub open_apart : (w : TourWord) (ws : List TourWord) (t : ℕ) → (word_tile w == t) ≡ false
    → has (open_tiles (w ∷ ws)) t ≡ has (open_tiles ws) t
open_apart (Begin tile run) ws t e = has_push (open_tiles ws) tile t ∙ ap (λ b. has (open_tiles ws) t || b) e ∙ or_no (has (open_tiles ws) t)
  where
    or_no : (b : Bool) → (b || false) ≡ b
    or_no true = refl
    or_no false = refl
open_apart (Told tile (Done k)) ws t e = refl
open_apart (Told tile (Failed k)) ws t e = refl
open_apart (Told tile Take) ws t e =
    has_filter (λ j. not (j == tile)) (open_tiles ws) t ∙ ap (λ b. has (open_tiles ws) t && not b) (swapped tile t e) ∙ and_yes (has (open_tiles ws) t)
  where
    and_yes : (b : Bool) → (b && true) ≡ b
    and_yes true = refl
    and_yes false = refl

-- Pieces that are all of one tile.
pub record AreOf (t : ℕ) (more : List Piece) : Type 0 where
  pub own : pieces_of more t ≡ more
  pub others : (u : ℕ) → (t == u) ≡ false → pieces_of more u ≡ []

pub pieces_apart : (pieces more : List Piece) (t u : ℕ) → AreOf t more → (t == u) ≡ false → pieces_of (pieces ++ more) u ≡ pieces_of pieces u
pieces_apart pieces more t u are e =
    filter-append (λ p. tile_of p == u) pieces more ∙ ap (λ l. pieces_of pieces u ++ l) (are.others u e) ∙ append-nil (pieces_of pieces u)

pub pieces_own : (pieces more : List Piece) (t : ℕ) → AreOf t more → pieces_of (pieces ++ more) t ≡ pieces_of pieces t ++ more
pieces_own pieces more t are = filter-append (λ p. tile_of p == t) pieces more ∙ ap (λ l. pieces_of pieces t ++ l) are.own

-- What a tile has, it has still behind a word of another.
apart : (number : ℕ) (job : JobParts) (w : TourWord) (ws : List TourWord) (pieces more : List Piece) (u : ℕ) (run : Option ℕ)
    → AreOf (word_tile w) more → (word_tile w == u) ≡ false → IsAnyTile number job ws pieces u run → IsAnyTile number job (w ∷ ws) (pieces ++ more) u run
apart number job w ws pieces more u None are e is = pieces_apart pieces more (word_tile w) u are e ∙ is
apart number job w ws pieces more u (Some run) are e is = record {
  history = is.history;
  is_history = rw (told_apart w ws u e) is.is_history;
  pieces_are = pieces_apart pieces more (word_tile w) u are e ∙ (rw (open_apart w ws u e) is.pieces_are);
}

pub each_tile : (number : ℕ) (job : JobParts) (words : List TourWord) (pieces : List Piece) → IsTour number job words pieces
    → (t : ℕ) → IsAnyTile number job words pieces t (run_of words t)
each_tile number job [] pieces tour t = ap (λ l. pieces_of l t) tour
each_tile number job (w ∷ ws) pieces (before, more, tour, may, same, tiles) t = tiles t

-- A tour with one more word, whose tile has what it has to have.
pub one_more : (number : ℕ) (job : JobParts) (w : TourWord) (ws : List TourWord) (pieces more : List Piece)
    → IsTour number job ws pieces → MayCome ws w → AreOf (word_tile w) more
    → IsAnyTile number job (w ∷ ws) (pieces ++ more) (word_tile w) (run_of (w ∷ ws) (word_tile w)) → IsTour number job (w ∷ ws) (pieces ++ more)
one_more number job w ws pieces more tour may are own = (pieces, more, tour, may, refl, tiles)
  where
    tiles : (u : ℕ) → IsAnyTile number job (w ∷ ws) (pieces ++ more) u (run_of (w ∷ ws) u)
    tiles u = elim (cases_Bool (word_tile w == u)) [
      | inl e ↦ subst (λ v. IsAnyTile number job (w ∷ ws) (pieces ++ more) v (run_of (w ∷ ws) v)) (eqb-true (word_tile w) u e) own
      | inr e ↦
          subst (IsAnyTile number job (w ∷ ws) (pieces ++ more) u) (sym (run_apart w ws u e))
          (apart number job w ws pieces more u (run_of ws u) are e (each_tile number job ws pieces tour u))
    ]
