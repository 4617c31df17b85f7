-- What a word does to a tour.
use Rattle.std.proofs.Common.{◌≡◌, ◌<◌, ◌≤◌, ◌+◌, ◌^◌, ℕ, zero, suc, Bool, true, false, ◌||◌, ◌==◌, List, [], ◌∷◌, ◌++◌, length, map, Option}
use Rattle.std.proofs.Common.{None, append-nil, append_assoc, refl, sym, ap, ◌∙◌, subst, inl, inr, arith}
use Rattle.std.specs.Prelude.{slice_index_or}
use Rattle.std.specs.Int.{w64}
use Rattle.std.specs.Io.KnownBytes.{Appends}
use Rattle.std.specs.List.{All, flat_map}
use Rattle.std.proofs.lemmas.Bool.{cases_Bool, eq-eqb, eqb-true}
use Rattle.std.proofs.lemmas.Grind.{flat_map-append}
use Rattle.std.proofs.lemmas.List.{append_cancel_left, length-map, map-append}
use Rattle.std.proofs.lemmas.List.Folds.{flat_map-map}
use Rattle.std.proofs.lemmas.List.Elements.{All-push}
use Rattle.fc_base.specs.Counted.{has}
use Rattle.fc_base.specs.NumberLaws.{has_push}
use Rattle.fc_base.specs.Layouts.{bytes_of}
use Rattle.fc_base.specs.declared.record.JobParts.{JobParts}
use Rattle.engine.specs.History.{Event, issue, issues}
use Rattle.engine.specs.Legal.{IsLegal}
use Rattle.engine.specs.Running.{Origin}
use Rattle.targets.specs.declared.tile.Tile.{Tile}
use Rattle.targets.specs.declared.tile.Tour.{Tour}
use Rattle.targets.specs.declared.tour_word.TourWord.{TourWord}
use Rattle.targets.specs.declared.tour_word.TourWord.TheVariants.{Begin}
use Rattle.targets.specs.Orders.{order_bytes, orders_behind}
use Rattle.targets.specs.Runs.{IsHistory}
use Rattle.targets.specs.Writing.{OrdersAll}
use Rattle.targets.specs.TourWords.{begun, open_tiles}
use Rattle.targets.specs.Tours.{Piece, order, piece_bytes, pieces_of, origin_of, orders_of, IsAnyTile, IsTour, MayCome}
use Rattle.targets.specs.Touring.{Does, IsOpen, Stands}
use Rattle.targets.proofs.TourFacts.{AreOf, AreWords, IsUnborn, each_tile, one_more, open_below, pieces_apart, pieces_own, run_apart, told_apart, unborn, word_tile, words_may_come}

-- ---- orders as pieces

-- The orders of these writes, as pieces of a tile.
abbrev pub pieces_for : ℕ → Origin → List ℕ → List Piece
pieces_for t origin ks = map (λ k. order t (order_bytes origin.key origin.job k)) ks

pub orders_are_of : (t : ℕ) (origin : Origin) (ks : List ℕ) → AreOf t (pieces_for t origin ks)
orders_are_of t origin ks = record { own = own ks; others = λ u e. others u e ks }
  where
    own : (ks : List ℕ) → pieces_of (pieces_for t origin ks) t ≡ pieces_for t origin ks
    own [] = refl
    own (k ∷ ks) =
        let same : (t == t) ≡ true = eq-eqb t t refl in
        rw same (ap (λ l. order t (order_bytes origin.key origin.job k) ∷ l) (own ks))

    others : (u : ℕ) → (t == u) ≡ false → (ks : List ℕ) → pieces_of (pieces_for t origin ks) u ≡ []
    others u e [] = refl
    others u e (k ∷ ks) = rw e (others u e ks)

-- Their bytes are those of the orders, each behind the number of the tile.
pub piece_bytes_are : (t : ℕ) (origin : Origin) (ks : List ℕ)
    → flat_map piece_bytes (pieces_for t origin ks) ≡ flat_map (λ k. bytes_of w64 t ++ order_bytes origin.key origin.job k) ks
piece_bytes_are t origin ks = flat_map-map piece_bytes (λ k. order t (order_bytes origin.key origin.job k)) ks

-- The writes that are issued behind a history.
pub record More (before h : List Event) : Type 0 where
  pub ks : List ℕ
  pub are : issues h ≡ issues before ++ ks

pub more_issues : (writes : List ℕ) (before h : List Event) → h ≡ map issue writes ++ before → More before h
more_issues writes before h is = let more = by writes in record { ks = more.ks; are = ap issues is ∙ more.are }
  where
    by : (ws : List ℕ) → More before (map issue ws ++ before)
    by [] = record { ks = []; are = sym (append-nil (issues before)) }
    by (w ∷ ws) =
        let rest = by ws in
        record { ks = rest.ks ++ w ∷ []; are = ap (λ l. l ++ w ∷ []) rest.are ∙ append_assoc (issues before) rest.ks (w ∷ []) }

-- What is written of them.
pub written_more : (t : ℕ) (origin : Origin) (before h : List Event) (bytes : List ℕ) → (more : More before h)
    → orders_behind (bytes_of w64 t) origin.key origin.job h ≡ orders_behind (bytes_of w64 t) origin.key origin.job before ++ bytes
    → bytes ≡ flat_map piece_bytes (pieces_for t origin more.ks)
written_more t origin before h bytes more is =
    let one = λ (k : ℕ). bytes_of w64 t ++ order_bytes origin.key origin.job k in
    append_cancel_left (flat_map one (issues before)) bytes (flat_map piece_bytes (pieces_for t origin more.ks))
    (sym is ∙ ap (flat_map one) more.are ∙ flat_map-append one (issues before) more.ks
    ∙ ap (λ l. flat_map one (issues before) ++ l) (sym (piece_bytes_are t origin more.ks)))

pub orders_with : (t : ℕ) (origin : Origin) (before h : List Event) → (more : More before h)
    → orders_of origin t h ≡ orders_of origin t before ++ pieces_for t origin more.ks
orders_with t origin before h more =
    let one = λ (k : ℕ). order t (order_bytes origin.key origin.job k) in
    ap (map one) more.are ∙ map-append one (issues before) more.ks

-- ---- the tiles that a word isn't of

pub open_apart_from : (number : ℕ) (job : JobParts) (w : TourWord) (ws : List TourWord) (pieces more : List Piece) (tile : Tile)
    → AreOf (word_tile w) more → (word_tile w == tile.number) ≡ false → IsOpen number job ws pieces tile
    → IsOpen number job (w ∷ ws) (pieces ++ more) tile
open_apart_from number job w ws pieces more tile are e is = record {
  run = is.run;
  history = is.history;
  run_is = run_apart w ws tile.number e ∙ is.run_is;
  origin_is = is.origin_is;
  stands = is.stands;
  is_history = rw (told_apart w ws tile.number e) is.is_history;
  pieces_are = pieces_apart pieces more (word_tile w) tile.number are e ∙ is.pieces_are;
}

-- The number of a tile, at its place.
pub number_at : (tiles : List Tile) (k : ℕ) (d : Tile) → slice_index_or (map (λ (tile : Tile). tile.number) tiles) k d.number ≡ (slice_index_or tiles k d).number
number_at [] k d = refl
number_at (x ∷ xs) zero d = refl
number_at (x ∷ xs) (suc k) d = number_at xs k d

pub below_at : (number : ℕ) (job : JobParts) (tour : Tour) (ws : List TourWord) (pieces : List Piece) → Stands number job tour ws pieces
    → (k : ℕ) (d : Tile) → k < length tour.tiles.items → (slice_index_or tour.tiles.items k d).number < begun ws
below_at number job tour ws pieces stands k d l =
    let are = words_may_come number job ws pieces stands.is_tour in
    let long : length (open_tiles ws) ≡ length tour.tiles.items = sym (ap length stands.numbers) ∙ length-map tour.tiles.items (λ (x : Tile). x.number) in
    subst (λ n. n < begun ws)
    (ap (λ l. slice_index_or l k d.number) (sym stands.numbers) ∙ number_at tour.tiles.items k d)
    (open_below ws are k d.number (omega (arith, long, l)))

-- ---- a tile is begun

pub begins : (number : ℕ) (job : JobParts) (old new : Tour) (ws : List TourWord) (pieces : List Piece) (t run : ℕ) (tile : Tile) (old_text text : Option (List ℕ))
    → Stands number job old ws pieces → t ≡ old.next → 1 ≤ run → run < 2 ^ 64 → length old.tiles.items < 64 → tile.number ≡ t
    → tile.writes.engine.origin ≡ origin_of number job run
    → OrdersAll (bytes_of w64 t) (origin_of number job run) [] tile.writes.engine old_text text
    → new.number ≡ old.number → new.rec ≡ old.rec → new.tiles.items ≡ old.tiles.items ++ tile ∷ [] → new.next ≡ old.next + 1
    → Does number job (Begin t run) ws pieces new old_text text None
begins number job old new ws pieces t run tile old_text text stands t_is is_run fits few number_is origin_is (some, all) same_number same_rec items_are next_is = (
  fresh,
  subst (Appends old_text text) (written_more t origin [] some.history some.bytes more some.ordered) some.written,
  record {
    number_is = same_number ∙ stands.number_is;
    job_is = same_rec ∙ stands.job_is;
    is_tour = tour;
    next_is = next_is ∙ omega (arith, stands.next_is);
    numbers = ap (map (λ (x : Tile). x.number)) items_are ∙ map-append _ old.tiles.items (tile ∷ []) ∙ ap (λ l. l ++ tile.number ∷ []) stands.numbers
        ∙ ap (λ n. open_tiles ws ++ n ∷ []) number_is;
    each = subst (All (IsOpen number job (Begin t run ∷ ws) (pieces ++ fresh))) (sym items_are) (All-push (IsOpen number job (Begin t run ∷ ws) (pieces ++ fresh)) old.tiles.items tile others own);
  },
)
  where
    origin : Origin
    origin = origin_of number job run

    more : More [] some.history
    more = more_issues some.writes [] some.history some.issued

    fresh : List Piece
    fresh = pieces_for t origin more.ks

    at_next : t ≡ begun ws
    at_next = t_is ∙ stands.next_is

    are : AreWords ws
    are = words_may_come number job ws pieces stands.is_tour

    is_unborn : IsUnborn ws t
    is_unborn = unborn ws t are (omega (arith, at_next))

    none_before : pieces_of pieces t ≡ []
    none_before = subst (IsAnyTile number job ws pieces t) is_unborn.no_run (each_tile number job ws pieces stands.is_tour t)

    may : MayCome ws (Begin t run)
    may = (at_next, is_run, fits, omega (arith, ap length stands.numbers, length-map old.tiles.items (λ (x : Tile). x.number), few))

    same : (t == t) ≡ true
    same = eq-eqb t t refl

    history_is : IsHistory origin [] some.history
    history_is = record {
      writes = some.writes;
      events = some.issued;
      legal = subst (λ (o : Origin). IsLegal o.job some.history) origin_is some.stands.legal;
      all = all;
    }

    orders_are : pieces_of (pieces ++ fresh) t ≡ orders_of origin t some.history
    orders_are = pieces_own pieces fresh t (orders_are_of t origin more.ks) ∙ ap (λ l. l ++ fresh) none_before ∙ sym (orders_with t origin [] some.history more)

    or_yes : (b : Bool) → (b || true) ≡ true
    or_yes true = refl
    or_yes false = refl

    tour : IsTour number job (Begin t run ∷ ws) (pieces ++ fresh)
    tour = one_more number job (Begin t run) ws pieces fresh stands.is_tour may (orders_are_of t origin more.ks)
        (rw same (record {
          history = some.history;
          is_history = rw (is_unborn.untold) history_is;
          pieces_are = orders_are ∙ sym (rw (has_push (open_tiles ws) t t, same, or_yes (has (open_tiles ws) t)) (append-nil (orders_of origin t some.history)));
        }))

    own : IsOpen number job (Begin t run ∷ ws) (pieces ++ fresh) tile
    own = record {
      run = run;
      history = some.history;
      run_is = rw (number_is, same) refl;
      origin_is = origin_is;
      stands = some.stands;
      is_history = rw (number_is, is_unborn.untold) history_is;
      pieces_are = rw number_is orders_are;
    }

    others : All (IsOpen number job (Begin t run ∷ ws) (pieces ++ fresh)) old.tiles.items
    others = λ k d l.
        open_apart_from number job (Begin t run) ws pieces fresh (slice_index_or old.tiles.items k d) (orders_are_of t origin more.ks)
        (other_than (slice_index_or old.tiles.items k d).number (below_at number job old ws pieces stands k d l)) (stands.each k d l)
      where
        other_than : (n : ℕ) → n < begun ws → (t == n) ≡ false
        other_than n h = elim (cases_Bool (t == n)) [
          | inl e ↦ absurd (omega (arith, h, at_next, eqb-true t n e))
          | inr e ↦ e
        ]
