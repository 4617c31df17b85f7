-- Where the open tiles of a tour stand, and what their numbers are.
use Rattle.std.proofs.Common.{◌≡◌, ◌<◌, ◌+◌, ℕ, zero, suc, Bool, true, false, not, ◌==◌, nat_lt, cond, List, [], ◌∷◌, length, map}
use Rattle.std.proofs.Common.{Some, None, refl, sym, ap, ◌∙◌, inl, inr, arith}
use Rattle.std.specs.Prelude.{slice_index_or}
use Rattle.std.specs.List.{position, position_or_len}
use Rattle.std.proofs.lemmas.Bool.{cases_Bool, cases_lt, eq-eqb, eqb-true}
use Rattle.std.proofs.lemmas.Bool.Decides.{nat_tests}
use Rattle.std.proofs.lemmas.List.{length-map}
use Rattle.fc_base.specs.Counted.{has}
use Rattle.fc_base.specs.declared.record.JobParts.{JobParts}
use Rattle.targets.specs.declared.tile.Tile.{Tile}
use Rattle.targets.specs.declared.tile.Tour.{Tour}
use Rattle.targets.specs.declared.tour_word.TourWord.{TourWord}
use Rattle.targets.specs.TourWords.{open_tiles}
use Rattle.targets.specs.Tours.{Piece}
use Rattle.targets.specs.Touring.{Stands}
use Rattle.targets.proofs.TourFacts.{open_ascend, words_may_come}
use Rattle.targets.proofs.TourLemmas.{number_at}

pub one_default : (tiles : List Tile) (k : ℕ) (d e : Tile) → k < length tiles → slice_index_or tiles k d ≡ slice_index_or tiles k e
one_default [] k d e l = absurd (omega (arith, l))
one_default (x ∷ xs) zero d e l = refl
one_default (x ∷ xs) (suc k) d e l = one_default xs k d e (omega (arith, l))

-- No two tiles have one number.
apart_at : (number : ℕ) (job : JobParts) (tour : Tour) (ws : List TourWord) (pieces : List Piece) → Stands number job tour ws pieces
    → (i j : ℕ) (d : Tile) → i < j → j < length tour.tiles.items
    → (slice_index_or tour.tiles.items i d).number < (slice_index_or tour.tiles.items j d).number
apart_at number job tour ws pieces stands i j d less l =
    let are = words_may_come number job ws pieces stands.is_tour in
    let long : length (open_tiles ws) ≡ length tour.tiles.items =
    sym (ap length stands.numbers) ∙ length-map tour.tiles.items (λ (x : Tile). x.number) in
    let ascend = open_ascend ws are i j d.number less (omega (arith, long, l)) in
    let at : (k : ℕ) → slice_index_or (open_tiles ws) k d.number ≡ (slice_index_or tour.tiles.items k d).number =
    λ k. ap (λ l. slice_index_or l k d.number) (sym stands.numbers) ∙ number_at tour.tiles.items k d in
    omega (arith, ascend, at i, at j)

pub other_number : (number : ℕ) (job : JobParts) (tour : Tour) (ws : List TourWord) (pieces : List Piece) → Stands number job tour ws pieces
    → (place k : ℕ) (d : Tile) (t : ℕ) → place < length tour.tiles.items → k < length tour.tiles.items → (k == place) ≡ false
    → (slice_index_or tour.tiles.items place d).number ≡ t → (t == (slice_index_or tour.tiles.items k d).number) ≡ false
other_number number job tour ws pieces stands place k d t lp lk e is = elim (cases_Bool (t == (slice_index_or tour.tiles.items k d).number)) [
  | inr f ↦ f
  | inl f ↦
      let same = eqb-true t (slice_index_or tour.tiles.items k d).number f in
      elim (cases_lt k place) [
        | inl less ↦ absurd (omega (arith, same, is, apart_at number job tour ws pieces stands k place d less lp))
        | inr more ↦
            elim (cases_lt place k) [
              | inl less ↦ absurd (omega (arith, same, is, apart_at number job tour ws pieces stands place k d less lk))
              | inr least ↦ let own : (k == place) ≡ true = eq-eqb k place (omega (arith, more, least)) in absurd cc
            ]
      ]
]

-- An open tile's number is among the open ones'.
has_number : (tiles : List Tile) (place : ℕ) (d : Tile) (t : ℕ) → place < length tiles → (slice_index_or tiles place d).number ≡ t
    → has (map (λ (x : Tile). x.number) tiles) t ≡ true
has_number [] place d t l is = absurd (omega (arith, l))
has_number (x ∷ xs) zero d t l is = let own : (x.number == t) ≡ true = eq-eqb x.number t is in rw own refl
has_number (x ∷ xs) (suc place) d t l is = elim (cases_Bool (x.number == t)) [
  | inl e ↦ rw e refl
  | inr e ↦ rw e (has_number xs place d t (omega (arith, l)) is)
]

pub is_open_at : (P : Tile → Type 0) (tour : Tour) (ws : List TourWord) (place t : ℕ) (d : Tile) → map (λ (x : Tile). x.number) tour.tiles.items ≡ open_tiles ws
    → place < length tour.tiles.items → (slice_index_or tour.tiles.items place d).number ≡ t → has (open_tiles ws) t ≡ true
is_open_at P tour ws place t d numbers l is = ap (λ ns. has ns t) (sym numbers) ∙ has_number tour.tiles.items place d t l is

-- A tile without a place isn't open.
none_at : (tiles : List Tile) (t : ℕ) → nat_lt (position_or_len (λ (x : Tile). x.number == t) tiles) (length tiles) ≡ false
    → has (map (λ (x : Tile). x.number) tiles) t ≡ false
none_at [] t h = refl
none_at (x ∷ xs) t h = here (x.number == t) refl (λ rest. none_at xs t rest) h
  where
    here : (b : Bool) → (x.number == t) ≡ b
        → (nat_lt (position_or_len (λ (y : Tile). y.number == t) xs) (length xs) ≡ false → has (map (λ (y : Tile). y.number) xs) t ≡ false)
        → nat_lt (cond (not b) (1 + position_or_len (λ (y : Tile). y.number == t) xs) 0) (suc (length xs)) ≡ false
        → has (map (λ (y : Tile). y.number) (x ∷ xs)) t ≡ false
    here true e later f = absurd (let first : nat_lt 0 (suc (length xs)) ≡ true = grind (arith, nat_tests) in cc)
    here false e later f =
        let rest : nat_lt (position_or_len (λ (y : Tile). y.number == t) xs) (length xs) ≡ false = grind (arith, nat_tests, f) in
        rw e (later rest)

no_place : (b : Bool) (n : ℕ) → None ≡ cond b (Some n) None → b ≡ false
no_place true n e = absurd cc
no_place false n e = refl

pub closed_at : (tiles : List Tile) (ws : List TourWord) (t : ℕ) → None ≡ position (λ (x : Tile). x.number == t) tiles
    → map (λ (x : Tile). x.number) tiles ≡ open_tiles ws → has (open_tiles ws) t ≡ false
closed_at tiles ws t none numbers = ap (λ ns. has ns t) (sym numbers) ∙ none_at tiles t (no_place _ _ none)
