-- What the take of a tile leaves of a tour.
use Rattle.std.proofs.Common.{◌≡◌, ◌+◌, ℕ, Bool, true, false, not, ◌&&◌, ◌==◌, List, [], ◌∷◌, ◌++◌, map, filter, Option}
use Rattle.std.proofs.Common.{None, OnOk, Result, Ok, Err, append-nil, refl, sym, ap, ◌∙◌, subst, inl, inr}
use Rattle.std.specs.Prelude.{slice_index_or}
use Rattle.std.specs.Int.{w64}
use Rattle.std.specs.Result.{is_err}
use Rattle.std.specs.Io.KnownBytes.{Appends}
use Rattle.std.specs.List.{All}
use Rattle.std.proofs.lemmas.Bool.{cases_Bool, eq-eqb, eqb-true}
use Rattle.std.proofs.lemmas.List.Elements.{All-filter, filter_passes}
use Rattle.fc_base.specs.Counted.{has}
use Rattle.fc_base.specs.NumberLaws.{has_filter}
use Rattle.fc_base.specs.Layouts.{bytes_of}
use Rattle.fc_base.specs.declared.record.JobParts.{JobParts}
use Rattle.verify_state.specs.State.{State}
use Rattle.verify_state.specs.Spelling.{spelling}
use Rattle.engine.specs.Numbers.{without}
use Rattle.engine.specs.Running.{Origin}
use Rattle.targets.specs.declared.notice.Notice.TheVariants.{Take}
use Rattle.targets.specs.declared.tile.Tile.{Tile}
use Rattle.targets.specs.declared.tile.Tour.{Tour}
use Rattle.targets.specs.declared.tour_word.TourWord.{TourWord}
use Rattle.targets.specs.declared.tour_word.TourWord.TheVariants.{Told}
use Rattle.targets.specs.TourWords.{open_tiles}
use Rattle.targets.specs.Tours.{Piece, state, origin_of, orders_of, IsTour}
use Rattle.targets.specs.Touring.{Does, HasState, IsOpen, StandsBut}
use Rattle.targets.proofs.TourFacts.{AreOf, one_more, pieces_own}
use Rattle.targets.proofs.TourLemmas.{open_apart_from}

map_filter : (t : ℕ) (tiles : List Tile)
    → map (λ (x : Tile). x.number) (filter (λ (x : Tile). not (x.number == t)) tiles) ≡ without t (map (λ (x : Tile). x.number) tiles)
map_filter t [] = refl
map_filter t (x ∷ xs) = elim (cases_Bool (x.number == t)) [
  | inl e ↦ rw e (map_filter t xs)
  | inr e ↦ rw e (ap (λ l. x.number ∷ l) (map_filter t xs))
]

pub takes : (number : ℕ) (job : JobParts) (old new : Tour) (ws : List TourWord) (pieces : List Piece) (t : ℕ) (taken : State)
    (old_text text : Option (List ℕ)) → StandsBut t number job old ws pieces → HasState number job ws pieces t taken
    → Appends old_text text (spelling taken ++ bytes_of w64 t)
    → new.tiles.items ≡ filter (λ (x : Tile). not (x.number == t)) old.tiles.items
    → new.number ≡ old.number → new.rec ≡ old.rec → new.next ≡ old.next → Does number job (Told t Take) ws pieces new old_text text None
takes number job old new ws pieces t taken old_text text stands has_state wrote items_are same_number same_rec same_next = (
  fresh,
  subst (Appends old_text text) (sym (append-nil (spelling taken ++ bytes_of w64 t))) wrote,
  record {
    number_is = same_number ∙ stands.number_is;
    job_is = same_rec ∙ stands.job_is;
    is_tour = tour;
    next_is = same_next ∙ stands.next_is;
    numbers = ap (map (λ (x : Tile). x.number)) items_are ∙ map_filter t old.tiles.items ∙ ap (without t) stands.numbers;
    each = subst (All (IsOpen number job (Told t Take ∷ ws) (pieces ++ fresh))) (sym items_are) each;
  },
)
  where
    fresh : List Piece
    fresh = state t taken ∷ []

    same : (t == t) ≡ true
    same = eq-eqb t t refl

    are_of : AreOf t fresh
    are_of = record { own = rw same refl; others = λ u e. rw e refl }

    origin : Origin
    origin = origin_of number job has_state.run

    closed : has (without t (open_tiles ws)) t ≡ false
    closed = has_filter (λ j. not (j == t)) (open_tiles ws) t ∙ (rw same (and_no (has (open_tiles ws) t)))
      where
        and_no : (b : Bool) → (b && false) ≡ false
        and_no true = refl
        and_no false = refl

    tour : IsTour number job (Told t Take ∷ ws) (pieces ++ fresh)
    tour = one_more number job (Told t Take) ws pieces fresh stands.is_tour has_state.is_open are_of
        (rw has_state.run_is (record {
          history = has_state.history;
          is_history = has_state.is_history;
          pieces_are = pieces_own pieces fresh t are_of ∙ ap (λ l. l ++ fresh) has_state.pieces_are
              ∙ (rw closed (ap (λ s. orders_of origin t has_state.history ++ state t s ∷ []) has_state.taken_is));
        }))

    each : All (IsOpen number job (Told t Take ∷ ws) (pieces ++ fresh)) (filter (λ (x : Tile). not (x.number == t)) old.tiles.items)
    each k d l =
        let it = slice_index_or (filter (λ (x : Tile). not (x.number == t)) old.tiles.items) k d in
        let passes : not (it.number == t) ≡ true = filter_passes (λ (x : Tile). not (x.number == t)) old.tiles.items k d l in
        let is_open = All-filter (λ (x : Tile). not (x.number == t)) (λ (x : Tile). (x.number ≡ t → ⊥) → IsOpen number job ws pieces x) old.tiles.items
        stands.each k d l in
        open_apart_from number job (Told t Take) ws pieces fresh it are_of (apart_from it.number passes) (is_open (λ e. differs it.number passes e))
      where
        differs : (n : ℕ) → not (n == t) ≡ true → n ≡ t → ⊥
        differs n passes e = let own : (n == t) ≡ true = eq-eqb n t e in cc

        apart_from : (n : ℕ) → not (n == t) ≡ true → (t == n) ≡ false
        apart_from n passes = elim (cases_Bool (t == n)) [
          | inr f ↦ f
          | inl f ↦ absurd (differs n passes (sym (eqb-true t n f)))
        ]

-- The bytes of a state are there where adding them has not failed.
pub told_ok : {A E : Type 0} (r : Result A E) (P : Type 0) (b : Bool) → b ≡ is_err r → b ≡ false → OnOk r P → P
told_ok (Ok a) P b is none p = p
told_ok (Err e) P b is none p = absurd cc
