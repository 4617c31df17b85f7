-- What is told of a tile, and what that leaves of a tour.
use Rattle.std.proofs.Common.{◌≡◌, ◌<◌, ◌+◌, ℕ, true, false, ◌==◌, List, ◌∷◌, ◌++◌, length, map, Option}
use Rattle.std.proofs.Common.{Some, None, IfOk, Result, Ok, Err, append-nil, refl, sym, ap, ◌∙◌, subst, inl, inr, arith}
use Rattle.std.specs.Prelude.{slice_index_or, slice_set}
use Rattle.std.specs.Int.{w64}
use Rattle.std.specs.Io.KnownBytes.{Appends, Keeps}
use Rattle.std.specs.List.{All}
use Rattle.std.proofs.KnownBytes.{Keeps-trans}
use Rattle.std.proofs.Math.Seq.{map-set_same}
use Rattle.std.proofs.lemmas.Bool.{cases_Bool, eq-eqb, eqb-true}
use Rattle.std.proofs.lemmas.Grind.{get_or-set_at}
use Rattle.std.proofs.lemmas.List.{length-set, get_or-set_other}
use Rattle.fc_base.specs.Counted.{has}
use Rattle.fc_base.specs.Layouts.{bytes_of}
use Rattle.fc_base.specs.declared.fault.Fault.TheVariants as faults
use Rattle.fc_base.specs.declared.record.JobParts.{JobParts}
use Rattle.engine.specs.History.{Event, done, fail}
use Rattle.engine.specs.Running.{Origin, StandsFor}
use Rattle.engine.specs.Taken.{state_after}
use Rattle.targets.specs.declared.notice.Notice.{Notice}
use Rattle.targets.specs.declared.notice.Notice.TheVariants.{Done, Failed, Take}
use Rattle.targets.specs.declared.tile.Tile.{Tile}
use Rattle.targets.specs.declared.tile.Tour.{Tour}
use Rattle.targets.specs.declared.tour.TourEnd.{TourEnd}
use Rattle.targets.specs.declared.tour.TourEnd.TheVariants.{Over, Refused}
use Rattle.targets.specs.declared.tour_word.TourWord.{TourWord}
use Rattle.targets.specs.declared.tour_word.TourWord.TheVariants.{Told}
use Rattle.targets.specs.declared.writing.RunEnd.{RunEnd}
use Rattle.targets.specs.declared.writing.RunEnd.TheVariants as run_ends
use Rattle.targets.specs.Orders.{orders_behind}
use Rattle.targets.specs.Runs.{Follows, IsHistory}
use Rattle.targets.specs.Writing.{EndsNothing, FollowsBy, GoesOn}
use Rattle.targets.specs.TourWords.{run_of, open_tiles, told_of}
use Rattle.targets.specs.Tours.{Piece, pieces_of, origin_of, orders_of, EndsNoWrite, IsTour}
use Rattle.targets.specs.Touring.{Does, EndsTile, HearsAt, IsOpen, Stands, StandsBut}
use Rattle.targets.proofs.RunLemmas.{kept_appends}
use Rattle.targets.proofs.TourFacts.{AreOf, one_more, pieces_own}
use Rattle.targets.proofs.TourLemmas.{More, more_issues, open_apart_from, orders_are_of, orders_with, pieces_for, written_more}
use Rattle.targets.proofs.PlaceLemmas.{one_default, other_number, is_open_at}

-- ---- a write has ended, and the tile goes on

heard : (number : ℕ) (job : JobParts) (old new : Tour) (ws : List TourWord) (pieces : List Piece) (t : ℕ) (n : Notice) (place : ℕ) (tile left : Tile)
    (old_text text : Option (List ℕ)) → Stands number job old ws pieces → place < length old.tiles.items
    → ((d : Tile) → slice_index_or old.tiles.items place d ≡ tile) → tile.number ≡ t → left.number ≡ t
    → (is_open : IsOpen number job ws pieces tile) → left.writes.engine.origin ≡ tile.writes.engine.origin
    → (goes : GoesOn (bytes_of w64 t) is_open.history n tile.writes.engine.origin left.writes.engine old_text text)
    → More is_open.history goes.history
    → open_tiles (Told t n ∷ ws) ≡ open_tiles ws → told_of (Told t n ∷ ws) t ≡ n ∷ told_of ws t
    → new.number ≡ old.number → new.rec ≡ old.rec → new.next ≡ old.next → new.tiles.items ≡ slice_set old.tiles.items place left
    → Does number job (Told t n) ws pieces new old_text text None
heard number job old new ws pieces t n place tile left old_text text stands l here number_is left_is is_open same goes more opens tells same_number same_rec same_next
    items_are = (
      fresh,
      subst (Appends old_text text) (written_more t origin is_open.history goes.history goes.bytes more ordered) goes.written,
      record {
        number_is = same_number ∙ stands.number_is;
        job_is = same_rec ∙ stands.job_is;
        is_tour = tour;
        next_is = same_next ∙ stands.next_is;
        numbers = ap (map (λ (x : Tile). x.number)) items_are
            ∙ map-set_same (λ (x : Tile). x.number) old.tiles.items place left tile (left_is ∙ sym (ap (λ (x : Tile). x.number) (here tile) ∙ number_is))
            ∙ stands.numbers ∙ sym opens;
        each = subst (All (IsOpen number job (Told t n ∷ ws) (pieces ++ fresh))) (sym items_are) each;
      },
    )
  where
    origin : Origin
    origin = origin_of number job is_open.run

    ordered : orders_behind (bytes_of w64 t) origin.key origin.job goes.history
        ≡ orders_behind (bytes_of w64 t) origin.key origin.job is_open.history ++ goes.bytes
    ordered = subst (λ (o : Origin). orders_behind (bytes_of w64 t) o.key o.job goes.history
        ≡ orders_behind (bytes_of w64 t) o.key o.job is_open.history ++ goes.bytes) is_open.origin_is goes.ordered

    fresh : List Piece
    fresh = pieces_for t origin more.ks

    are_of : AreOf t fresh
    are_of = orders_are_of t origin more.ks

    now_open : has (open_tiles ws) t ≡ true
    now_open = is_open_at (IsOpen number job ws pieces) old ws place t tile stands.numbers l (ap (λ (x : Tile). x.number) (here tile) ∙ number_is)

    history_is : IsHistory origin (told_of (Told t n ∷ ws) t) goes.history
    history_is = rw tells (
      is_open.history,
      subst (λ u. IsHistory origin (told_of ws u) is_open.history) number_is is_open.is_history,
      subst (λ o. Follows o n is_open.history goes.history) is_open.origin_is goes.follows,
    )

    orders_are : pieces_of (pieces ++ fresh) t ≡ orders_of origin t goes.history
    orders_are = pieces_own pieces fresh t are_of
        ∙ ap (λ l. l ++ fresh) (subst (λ u. pieces_of pieces u ≡ orders_of origin u is_open.history) number_is is_open.pieces_are)
        ∙ sym (orders_with t origin is_open.history goes.history more)

    run_is : run_of ws t ≡ Some is_open.run
    run_is = subst (λ u. run_of ws u ≡ Some is_open.run) number_is is_open.run_is

    tour : IsTour number job (Told t n ∷ ws) (pieces ++ fresh)
    tour = one_more number job (Told t n) ws pieces fresh stands.is_tour now_open are_of
        (rw run_is (record {
          history = goes.history;
          is_history = history_is;
          pieces_are = orders_are ∙ sym (rw (opens, now_open) (append-nil (orders_of origin t goes.history)));
        }))

    own : IsOpen number job (Told t n ∷ ws) (pieces ++ fresh) left
    own = record {
      run = is_open.run;
      history = goes.history;
      run_is = subst (λ u. run_of ws u ≡ Some is_open.run) (sym left_is) run_is;
      origin_is = same ∙ is_open.origin_is;
      stands = goes.stands;
      is_history = subst (λ u. IsHistory origin (told_of (Told t n ∷ ws) u) goes.history) (sym left_is) history_is;
      pieces_are = subst (λ u. pieces_of (pieces ++ fresh) u ≡ orders_of origin u goes.history) (sym left_is) orders_are;
    }

    each : All (IsOpen number job (Told t n ∷ ws) (pieces ++ fresh)) (slice_set old.tiles.items place left)
    each k d lk =
        let within : k < length old.tiles.items = omega (arith, lk, length-set old.tiles.items place left) in
        elim (cases_Bool (k == place)) [
          | inl e ↦
              subst (IsOpen number job (Told t n ∷ ws) (pieces ++ fresh)) (sym (get_or-set_at old.tiles.items place k left d (eqb-true k place e) l)) own
          | inr e ↦
              subst (IsOpen number job (Told t n ∷ ws) (pieces ++ fresh))
              (sym (get_or-set_other old.tiles.items place k left d (λ same_place. differs k place e same_place)))
              (open_apart_from number job (Told t n) ws pieces fresh (slice_index_or old.tiles.items k d) are_of
              (other_number number job old ws pieces stands place k d t l within e (ap (λ (x : Tile). x.number) (here d) ∙ number_is))
              (stands.each k d within))
        ]
      where
        differs : (a b : ℕ) → (a == b) ≡ false → a ≡ b → ⊥
        differs a b e same = let own : (a == b) ≡ true = eq-eqb a b same in cc

pub tells : (number : ℕ) (job : JobParts) (old new : Tour) (ws : List TourWord) (pieces : List Piece) (t : ℕ) (n : Notice) (place : ℕ)
    (old_text text : Option (List ℕ)) → Stands number job old ws pieces → place < length old.tiles.items
    → ((d : Tile) → (slice_index_or old.tiles.items place d).number ≡ t) → HearsAt place n old.tiles.items new.tiles.items old_text text None
    → new.number ≡ old.number → new.rec ≡ old.rec → new.next ≡ old.next → Does number job (Told t n) ws pieces new old_text text None
tells number job old new ws pieces t n place old_text text stands l at hears same_number same_rec same_next = by n hears
  where
    go : (n : Notice) (hears : HearsAt place n old.tiles.items new.tiles.items old_text text None)
        → (is_open : IsOpen number job ws pieces hears.tile)
        → (more : (goes : GoesOn (bytes_of w64 t) is_open.history n hears.tile.writes.engine.origin hears.left.writes.engine old_text text)
        → More is_open.history goes.history)
        → open_tiles (Told t n ∷ ws) ≡ open_tiles ws → told_of (Told t n ∷ ws) t ≡ n ∷ told_of ws t → Does number job (Told t n) ws pieces new old_text text None
    go n hears is_open more opens tells =
        let number_is : hears.tile.number ≡ t = sym (ap (λ (x : Tile). x.number) (hears.here hears.tile)) ∙ at hears.tile in
        let follows = hears.follows is_open.history is_open.stands in
        let goes = subst (λ u. GoesOn (bytes_of w64 u) is_open.history n hears.tile.writes.engine.origin hears.left.writes.engine old_text text) number_is follows.1 in
        heard number job old new ws pieces t n place hears.tile hears.left old_text text stands l hears.here number_is (hears.number_is ∙ number_is) is_open
        follows.0 goes (more goes) opens tells same_number same_rec same_next hears.leaves

    opened : (n : Notice) (hears : HearsAt place n old.tiles.items new.tiles.items old_text text None) → IsOpen number job ws pieces hears.tile
    opened n hears = subst (IsOpen number job ws pieces) (hears.here hears.tile) (stands.each place hears.tile l)

    same : (t == t) ≡ true
    same = eq-eqb t t refl

    by : (n : Notice) → HearsAt place n old.tiles.items new.tiles.items old_text text None → Does number job (Told t n) ws pieces new old_text text None
    by (Done k) hears =
        let is_open = opened (Done k) hears in
        go (Done k) hears is_open
        (λ goes.
        let more = more_issues goes.follows.writes (done k ∷ is_open.history) goes.history goes.follows.events in
        record { ks = more.ks; are = more.are })
        refl (rw same refl)
    by (Failed k) hears =
        let is_open = opened (Failed k) hears in
        go (Failed k) hears is_open
        (λ goes.
        let more = more_issues goes.follows.writes (fail k ∷ is_open.history) goes.history goes.follows.events in
        record { ks = more.ks; are = more.are })
        refl (rw same refl)
    by Take hears =
        let is_open = opened Take hears in
        absurd ((hears.follows is_open.history is_open.stands).1.follows)

pub hears : {E : Type 0} (r : Result (Option RunEnd) E) (place : ℕ) (n : Notice) (old : List Tile) (d left : Tile) (old_text text : Option (List ℕ))
    → place < length old → left.number ≡ (slice_index_or old place d).number
    → ((h : List Event) → StandsFor (slice_index_or old place d).writes.engine h
    → IfOk r (FollowsBy (bytes_of w64 (slice_index_or old place d).number) n h (slice_index_or old place d).writes.engine left.writes.engine old_text text))
    → IfOk r (HearsAt place n old (slice_set old place left) old_text text)
hears (Err e) place n old d left old_text text l same follows = tt
hears (Ok end) place n old d left old_text text l same follows = record {
  tile = slice_index_or old place d;
  left = left;
  here = λ e. one_default old place e d l;
  leaves = refl;
  number_is = same;
  follows = follows;
}

-- ---- a tile ends

pub but_this : (number : ℕ) (job : JobParts) (old new : Tour) (ws : List TourWord) (pieces : List Piece) (t : ℕ) (n : Notice) (place : ℕ)
    (old_text text : Option (List ℕ)) (end : Option RunEnd) → Stands number job old ws pieces → place < length old.tiles.items
    → ((d : Tile) → (slice_index_or old.tiles.items place d).number ≡ t) → HearsAt place n old.tiles.items new.tiles.items old_text text end
    → new.number ≡ old.number → new.rec ≡ old.rec → new.next ≡ old.next → StandsBut t number job new ws pieces
but_this number job old new ws pieces t n place old_text text end stands l at hears same_number same_rec same_next = record {
  number_is = same_number ∙ stands.number_is;
  job_is = same_rec ∙ stands.job_is;
  is_tour = stands.is_tour;
  next_is = same_next ∙ stands.next_is;
  numbers = ap (map (λ (x : Tile). x.number)) hears.leaves
      ∙ map-set_same (λ (x : Tile). x.number) old.tiles.items place hears.left hears.tile (left_is ∙ sym (at hears.tile)) ∙ stands.numbers;
  each = subst (All (λ (x : Tile). (x.number ≡ t → ⊥) → IsOpen number job ws pieces x)) (sym hears.leaves) each;
}
  where
    left_is : hears.left.number ≡ t
    left_is = hears.number_is ∙ sym (ap (λ (x : Tile). x.number) (hears.here hears.tile)) ∙ at hears.tile

    each : All (λ (x : Tile). (x.number ≡ t → ⊥) → IsOpen number job ws pieces x) (slice_set old.tiles.items place hears.left)
    each k d lk =
        let within : k < length old.tiles.items = omega (arith, lk, length-set old.tiles.items place hears.left) in
        elim (cases_Bool (k == place)) [
          | inl e ↦
              subst (λ (x : Tile). (x.number ≡ t → ⊥) → IsOpen number job ws pieces x)
              (sym (get_or-set_at old.tiles.items place k hears.left d (eqb-true k place e) l)) (λ other. absurd (other left_is))
          | inr e ↦
              subst (λ (x : Tile). (x.number ≡ t → ⊥) → IsOpen number job ws pieces x)
              (sym (get_or-set_other old.tiles.items place k hears.left d (λ same. differs k place e same))) (λ other. stands.each k d within)
        ]
      where
        differs : (a b : ℕ) → (a == b) ≡ false → a ≡ b → ⊥
        differs a b e same = let own : (a == b) ≡ true = eq-eqb a b same in cc

-- What is written by then is what was, and this is why the tile ends.
pub ends : (number : ℕ) (job : JobParts) (old : Tour) (left : List Tile) (ws : List TourWord) (pieces : List Piece) (t : ℕ) (n : Notice) (place : ℕ)
    (old_text text : Option (List ℕ)) (end : RunEnd) → Stands number job old ws pieces → place < length old.tiles.items
    → ((d : Tile) → (slice_index_or old.tiles.items place d).number ≡ t) → HearsAt place n old.tiles.items left old_text text (Some end)
    → Keeps old_text text × EndsTile number job ws pieces t n end
ends number job old left ws pieces t n place old_text text end stands l at hears =
    by end (hears.follows is_open.history is_open.stands)
  where
    is_open : IsOpen number job ws pieces hears.tile
    is_open = subst (IsOpen number job ws pieces) (hears.here hears.tile) (stands.each place hears.tile l)

    number_is : hears.tile.number ≡ t
    number_is = sym (ap (λ (x : Tile). x.number) (hears.here hears.tile)) ∙ at hears.tile

    by : (end : RunEnd) → FollowsBy (bytes_of w64 hears.tile.number) n is_open.history hears.tile.writes.engine hears.left.writes.engine old_text text (Some end)
        → Keeps old_text text × EndsTile number job ws pieces t n end
    by (run_ends.Taken taken) (kept, take, taken_is) = (
      kept,
      (
        take,
        record {
          run = is_open.run;
          history = is_open.history;
          is_open = is_open_at (IsOpen number job ws pieces) old ws place t hears.tile stands.numbers l (at hears.tile);
          run_is = subst (λ u. run_of ws u ≡ Some is_open.run) number_is is_open.run_is;
          is_history = subst (λ u. IsHistory (origin_of number job is_open.run) (told_of ws u) is_open.history) number_is is_open.is_history;
          pieces_are = subst (λ u. pieces_of pieces u ≡ orders_of (origin_of number job is_open.run) u is_open.history) number_is is_open.pieces_are;
          taken_is = taken_is ∙ ap (λ o. state_after o is_open.history) is_open.origin_is;
        },
      ),
    )
    by (run_ends.Refused faults.NotInFlight) (kept, none) = (kept, inr (no_write n none))
      where
        no_write : (n : Notice) → EndsNothing n is_open.history → EndsNoWrite number job ws t n
        no_write (Done k) none = record {
          run = is_open.run;
          write = k;
          history = is_open.history;
          told = inl refl;
          run_is = subst (λ u. run_of ws u ≡ Some is_open.run) number_is is_open.run_is;
          is_history = subst (λ u. IsHistory (origin_of number job is_open.run) (told_of ws u) is_open.history) number_is is_open.is_history;
          none = none;
        }
        no_write (Failed k) none = record {
          run = is_open.run;
          write = k;
          history = is_open.history;
          told = inr refl;
          run_is = subst (λ u. run_of ws u ≡ Some is_open.run) number_is is_open.run_is;
          is_history = subst (λ u. IsHistory (origin_of number job is_open.run) (told_of ws u) is_open.history) number_is is_open.is_history;
          none = none;
        }
        no_write Take none = absurd none
    by (run_ends.Refused _) why = absurd why

-- ---- a flush before that

pub does_behind : (number : ℕ) (job : JobParts) (w : TourWord) (ws : List TourWord) (pieces : List Piece) (new : Tour) (first mid text : Option (List ℕ))
    (end : Option TourEnd) → Keeps first mid → Does number job w ws pieces new mid text end → Does number job w ws pieces new first text end
does_behind number job w ws pieces new first mid text None kept (more, wrote, stands) = (more, kept_appends first mid text _ kept wrote, stands)
does_behind number job w ws pieces new first mid text (Some Over) kept does = absurd does
does_behind number job w ws pieces new first mid text (Some (Refused fault)) kept (later, why) = (Keeps-trans first mid text kept later, why)
