-- A tour of two tiles, word by word.
use Rattle.std.proofs.Common.{◌≡◌, ◌==◌, true, [], ◌∷◌, refl, arith}
use Rattle.std.proofs.lemmas.Bool.{eq-eqb}
use Rattle.engine.specs.History.{issue}
use Rattle.engine.specs.Taken.{state_after}
use Rattle.targets.specs.declared.notice.Notice.TheVariants.{Done, Take}
use Rattle.targets.specs.declared.tour_word.TourWord.TheVariants.{Begin, Told}
use Rattle.targets.specs.Examples.{three_writes, one_told, order_of_first, two_tiles, two_tiles_written}
use Rattle.targets.specs.Jobs.{key_of}
use Rattle.targets.specs.Orders.{order_bytes}
use Rattle.targets.specs.Runs.{IsHistory}
use Rattle.targets.specs.Tours.{Piece, order, state, tile_of, origin_of, IsTour}
use Rattle.targets.proofs.FrontLemmas.{one_is_begun, one_is_behind}
use Rattle.targets.proofs.TourFacts.{AreOf, one_more}

-- One piece is of its tile.
alone : (p : Piece) → AreOf (tile_of p) (p ∷ [])
alone p =
    let same : (tile_of p == tile_of p) ≡ true = eq-eqb (tile_of p) (tile_of p) refl in
    record { own = rw same refl; others = λ u e. rw e refl }

abbrev of_second : Piece
of_second = order 1 (order_bytes (key_of 2 0) three_writes.job 0)

told : IsHistory three_writes (Done 0 ∷ []) one_told
told = one_is_behind.first_history

begun : IsHistory three_writes [] (issue 0 ∷ [])
begun = one_is_begun

other_begun : IsHistory (origin_of 0 three_writes.job 2) [] (issue 0 ∷ [])
other_begun = record { writes = 0 ∷ []; events = refl; legal = begun.legal; all = refl }

pub two_tiles_are_toured : IsTour 0 three_writes.job two_tiles two_tiles_written
two_tiles_are_toured =
    let job = three_writes.job in
    let first : IsTour 0 job (Begin 0 1 ∷ []) (order_of_first 0 ∷ []) =
    one_more 0 job (Begin 0 1) [] [] (order_of_first 0 ∷ []) refl (refl, omega arith, omega arith, omega arith) (alone (order_of_first 0))
    (record { history = issue 0 ∷ []; is_history = begun; pieces_are = refl }) in
    let both : IsTour 0 job (Begin 1 2 ∷ Begin 0 1 ∷ []) (order_of_first 0 ∷ of_second ∷ []) =
    one_more 0 job (Begin 1 2) (Begin 0 1 ∷ []) (order_of_first 0 ∷ []) (of_second ∷ []) first (refl, omega arith, omega arith, omega arith) (alone of_second)
    (record { history = issue 0 ∷ []; is_history = other_begun; pieces_are = refl }) in
    let heard : IsTour 0 job (Told 0 (Done 0) ∷ Begin 1 2 ∷ Begin 0 1 ∷ []) (order_of_first 0 ∷ of_second ∷ order_of_first 1 ∷ []) =
    one_more 0 job (Told 0 (Done 0)) (Begin 1 2 ∷ Begin 0 1 ∷ []) (order_of_first 0 ∷ of_second ∷ []) (order_of_first 1 ∷ []) both refl
    (alone (order_of_first 1)) (record { history = one_told; is_history = told; pieces_are = refl }) in
    one_more 0 job (Told 0 Take) (Told 0 (Done 0) ∷ Begin 1 2 ∷ Begin 0 1 ∷ []) (order_of_first 0 ∷ of_second ∷ order_of_first 1 ∷ [])
    (state 0 (state_after three_writes one_told) ∷ []) heard refl (alone (state 0 (state_after three_writes one_told)))
    (record { history = one_told; is_history = told; pieces_are = refl })
