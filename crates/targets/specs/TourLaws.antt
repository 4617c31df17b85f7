-- Each tile of a tour is a run of its own.
use Rattle.std.specs.Prelude.{◌≡◌, ℕ, false, List, [], ◌∷◌, ◌++◌, map, Some}
use Rattle.std.specs.List.{flat_map}
use Rattle.fc_base.specs.Counted.{has}
use Rattle.fc_base.specs.declared.record.JobParts.{JobParts}
use Rattle.verify_state.specs.State.{State}
use Rattle.targets.specs.declared.notice.Notice.TheVariants.{Take}
use Rattle.targets.specs.declared.tour_word.TourWord.{TourWord}
use Rattle.targets.specs.declared.writing.RunEnd.TheVariants.{Taken}
use Rattle.targets.specs.Notices.{notice_bytes, told_bytes}
use Rattle.targets.specs.Runs.{Runs}
use Rattle.targets.specs.TourWords.{open_tiles, run_of, told_of}
use Rattle.targets.specs.Tours.{Piece, order, state, origin_of, pieces_of, IsTour}

-- What is written of a tile are orders and behind them its state; and a run that is told what was told
-- of this tile, and then the take, writes just these orders and ends with this state.
pub record IsRun (number : ℕ) (job : JobParts) (words : List TourWord) (pieces : List Piece)
    (t run : ℕ) : Type 0 where
  pub ordered : List (List ℕ)
  pub taken : State
  pub pieces_are : pieces_of pieces t ≡ map (λ bytes. order t bytes) ordered ++ state t taken ∷ []
  pub runs : Runs (origin_of number job run) (told_bytes (told_of words t) ++ notice_bytes Take)
      (Some []) (Some (flat_map (λ bytes. bytes) ordered)) (Taken taken)

-- Each tile that was begun and is open no more is one.
abbrev pub TilesAreRuns : Type 0
TilesAreRuns =
    (number : ℕ) (job : JobParts) (words : List TourWord) (pieces : List Piece) (t run : ℕ) →
    IsTour number job words pieces → run_of words t ≡ Some run → has (open_tiles words) t ≡ false
    → IsRun number job words pieces t run
