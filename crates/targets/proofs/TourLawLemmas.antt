-- Each tile that was taken is a run.
use Rattle.std.proofs.Common.{◌≡◌, ℕ, List, [], ◌∷◌, ◌++◌, map, append-nil, refl, sym, ap, ◌∙◌, subst}
use Rattle.std.proofs.lemmas.List.Folds.{flat_map-map}
use Rattle.engine.specs.History.{issues}
use Rattle.engine.specs.Running.{Origin}
use Rattle.engine.specs.Taken.{state_after}
use Rattle.targets.specs.declared.notice.Notice.TheVariants.{Take}
use Rattle.targets.specs.Notices.{notice_bytes}
use Rattle.targets.specs.Orders.{order_bytes}
use Rattle.targets.specs.TourWords.{told_of}
use Rattle.targets.specs.Tours.{order, state, origin_of, IsAnyTile, IsTile}
use Rattle.targets.specs.TourLaws.{TilesAreRuns}
use Rattle.targets.proofs.TourFacts.{each_tile}

one_by_one : (t : ℕ) (bytes_of : ℕ → List ℕ) (ks : List ℕ) → map (λ k. order t (bytes_of k)) ks ≡ map (λ bytes. order t bytes) (map bytes_of ks)
one_by_one t bytes_of [] = refl
one_by_one t bytes_of (k ∷ ks) = ap (λ l. order t (bytes_of k) ∷ l) (one_by_one t bytes_of ks)

pub tiles_are_runs : TilesAreRuns
tiles_are_runs number job words pieces t run tour run_is closed =
    let origin : Origin = origin_of number job run in
    let tile : IsTile number job words pieces t run = subst (IsAnyTile number job words pieces t) run_is (each_tile number job words pieces tour t) in
    let one = λ (k : ℕ). order_bytes origin.key origin.job k in
    record {
      ordered = map one (issues tile.history);
      taken = state_after origin tile.history;
      pieces_are = tile.pieces_are
          ∙ (rw closed (ap (λ l. l ++ state t (state_after origin tile.history) ∷ []) (one_by_one t one (issues tile.history))));
      runs = record {
        notices = told_of words t;
        history = tile.history;
        rest = notice_bytes Take;
        is_history = tile.is_history;
        told = refl;
        written = flat_map-map (λ (bytes : List ℕ). bytes) one (issues tile.history);
        ended = (record { rest = []; take = sym (append-nil (notice_bytes Take)) }, refl);
      };
    }
