-- A tour, word by word. Only the proofs go by these.
use Rattle.std.specs.Prelude.{◌≡◌, ◌⊎◌, ◌<◌, ℕ, true, List, [], ◌∷◌, ◌++◌, length, map, Option, Some, None, slice_index_or, slice_set, Result, Ok, Err}
use Rattle.std.specs.Int.{w64}
use Rattle.std.specs.List.{All, flat_map}
use Rattle.std.specs.Io.KnownBytes.{Appends, Consumes, IsAtEnd, Keeps}
use Rattle.fc_base.specs.Layouts.{bytes_of}
use Rattle.fc_base.specs.declared.fault.Fault.{Fault}
use Rattle.fc_base.specs.declared.fault.Fault.TheVariants as faults
use Rattle.fc_base.specs.declared.record.JobParts.{JobParts}
use Rattle.fc_base.specs.Counted.{has}
use Rattle.verify_state.specs.State.{State}
use Rattle.engine.specs.History.{Event}
use Rattle.engine.specs.Running.{StandsFor}
use Rattle.engine.specs.Taken.{state_after}
use Rattle.targets.specs.declared.notice.Notice.{Notice}
use Rattle.targets.specs.declared.notice.Notice.TheVariants.{Take}
use Rattle.targets.specs.declared.tour_word.TourWord.{TourWord}
use Rattle.targets.specs.declared.writing.RunEnd.{RunEnd}
use Rattle.targets.specs.declared.writing.RunEnd.TheVariants as run_ends
use Rattle.targets.specs.declared.tile.Tile.{Tile}
use Rattle.targets.specs.declared.tile.Tour.{Tour}
use Rattle.targets.specs.declared.tour.TourEnd.{TourEnd}
use Rattle.targets.specs.declared.tour.TourEnd.TheVariants.{Over, Refused}
use Rattle.targets.specs.Runs.{IsHistory}
use Rattle.targets.specs.Writing.{FollowsBy}
use Rattle.targets.specs.TourWords.{word_bytes, words_bytes, Fits, IsWordIn, begun, run_of, open_tiles, told_of}
use Rattle.targets.specs.Tours.{Piece, piece_bytes, pieces_of, origin_of, orders_of, IsTour, RefusesTold, RefusesWord}

-- The next word of an input, or that it has ended, or why there is none.
abbrev pub ReadsWord : Option (List ℕ) → Option (List ℕ) → Result (Option TourWord) Fault → Type 0
ReadsWord old new (Ok (Some w)) = Consumes old new (word_bytes w) × Fits w
ReadsWord old new (Ok None) = Consumes old new [] × IsAtEnd new
ReadsWord old new (Err faults.BadNotice) =
    (bytes : List ℕ) × Consumes old new bytes × (length bytes ≡ 24) × IsWordIn bytes None
ReadsWord old new (Err faults.EndOfInput) =
    (bytes : List ℕ) × Consumes old new bytes × (0 < length bytes) × (length bytes < 24)
    × IsAtEnd new
ReadsWord old new (Err faults.ReadError) = Unit {0}
ReadsWord old new (Err fault) = ⊥

-- An open tile stands for its history, of which its orders are written and no state is.
pub record IsOpen (number : ℕ) (job : JobParts) (words : List TourWord) (pieces : List Piece)
    (tile : Tile) : Type 0 where
  pub run : ℕ
  pub history : List Event
  pub run_is : run_of words tile.number ≡ Some run
  pub origin_is : tile.writes.engine.origin ≡ origin_of number job run
  pub stands : StandsFor tile.writes.engine history
  pub is_history : IsHistory (origin_of number job run) (told_of words tile.number) history
  pub pieces_are : pieces_of pieces tile.number
      ≡ orders_of (origin_of number job run) tile.number history

-- A tour of this job stands for the words that were read, and for what is written of it, where P holds
-- of its tiles.
pub record StandsBy (P : Tile → Type 0) (number : ℕ) (job : JobParts) (tour : Tour)
    (words : List TourWord) (pieces : List Piece) : Type 0 where
  pub number_is : tour.number ≡ number
  pub job_is : tour.rec ≡ job
  pub is_tour : IsTour number job words pieces
  pub next_is : tour.next ≡ begun words
  pub numbers : map (λ (tile : Tile). tile.number) tour.tiles.items ≡ open_tiles words
  pub each : All P tour.tiles.items

-- Each open tile stands for its history.
abbrev pub Stands : ℕ → JobParts → Tour → List TourWord → List Piece → Type 0
Stands number job tour words pieces =
    StandsBy (IsOpen number job words pieces) number job tour words pieces

-- Each open tile but this one stands for its history.
abbrev pub StandsBut : ℕ → ℕ → JobParts → Tour → List TourWord → List Piece → Type 0
StandsBut t number job tour words pieces =
    StandsBy (λ tile. (tile.number ≡ t → ⊥) → IsOpen number job words pieces tile)
    number job tour words pieces

-- A tile is open, its orders are written, and this is its state.
pub record HasState (number : ℕ) (job : JobParts) (words : List TourWord) (pieces : List Piece)
    (t : ℕ) (taken : State) : Type 0 where
  pub run : ℕ
  pub history : List Event
  pub is_open : has (open_tiles words) t ≡ true
  pub run_is : run_of words t ≡ Some run
  pub is_history : IsHistory (origin_of number job run) (told_of words t) history
  pub pieces_are : pieces_of pieces t ≡ orders_of (origin_of number job run) t history
  pub taken_is : taken ≡ state_after (origin_of number job run) history

-- Why a tile ends at a notice: it is taken, and this is its state; or the notice is refused.
abbrev pub EndsTile : ℕ → JobParts → List TourWord → List Piece → ℕ → Notice → RunEnd → Type 0
EndsTile number job words pieces t n (run_ends.Taken taken) =
    (n ≡ Take) × HasState number job words pieces t taken
EndsTile number job words pieces t n (run_ends.Refused fault) =
    RefusesTold number job words t n fault

-- A notice is followed by the tile at this place, which keeps its number.
pub record HearsAt (place : ℕ) (notice : Notice) (old new : List Tile)
    (old_text text : Option (List ℕ)) (end : Option RunEnd) : Type 0 where
  pub tile : Tile
  pub left : Tile
  pub here : (d : Tile) → slice_index_or old place d ≡ tile
  pub leaves : new ≡ slice_set old place left
  pub number_is : left.number ≡ tile.number
  pub follows : (h : List Event) → StandsFor tile.writes.engine h
      → FollowsBy (bytes_of w64 tile.number) notice h tile.writes.engine left.writes.engine
      old_text text end

-- What a word leaves behind others: its pieces are written, and the tour goes on; or it is refused.
abbrev pub Does : ℕ → JobParts → TourWord → List TourWord → List Piece → Tour → Option (List ℕ)
    → Option (List ℕ) → Option TourEnd → Type 0
Does number job w words pieces new old_text text None =
    (more : List Piece) × Appends old_text text (flat_map piece_bytes more)
    × Stands number job new (w ∷ words) (pieces ++ more)
Does number job w words pieces new old_text text (Some Over) = ⊥
Does number job w words pieces new old_text text (Some (Refused fault)) =
    Keeps old_text text × RefusesWord number job words w fault

-- How a tour ends whose input does, by the tiles that are open.
abbrev pub end_by : List Tile → TourEnd
end_by [] = Over
end_by (tile ∷ tiles) = Refused faults.EndOfInput

-- A tour ends where no word was read.
abbrev pub EndsUnread : Option (List ℕ) → Option (List ℕ) → List TourWord → TourEnd → Type 0
EndsUnread old new words Over = ReadsWord old new (Ok None) × (open_tiles words ≡ [])
EndsUnread old new words (Refused fault) =
    ReadsWord old new (Err fault)
    ⊎ (ReadsWord old new (Ok None) × (open_tiles words ≡ [] → ⊥) × (fault ≡ faults.EndOfInput))

-- A step reads a word, and does what it says; or there is no word.
abbrev pub Steps : ℕ → JobParts → List TourWord → List Piece → Tour → Option (List ℕ)
    → Option (List ℕ) → Option (List ℕ) → Option (List ℕ) → Option TourEnd → Type 0
Steps number job words pieces new old_input input old_text text end =
    ((w : TourWord) × Consumes old_input input (word_bytes w) × Fits w
    × Does number job w words pieces new old_text text end)
    ⊎ ((last : TourEnd) × (end ≡ Some last) × Keeps old_text text
    × EndsUnread old_input input words last)

-- A tour up to here: so many words were read and just the pieces of their tour are written, since the
-- input and the text were these.
pub record SoFar (number : ℕ) (job : JobParts) (tour : Tour) (count : ℕ)
    (first_input input first_text text : Option (List ℕ)) : Type 0 where
  pub words : List TourWord
  pub pieces : List Piece
  pub stands : Stands number job tour words pieces
  pub counted : length words ≡ count
  pub told : Consumes first_input input (words_bytes words)
  pub written : Appends first_text text (flat_map piece_bytes pieces)
