-- What comes of a tour: many runs of one job, one a tile, of which some are open at once.
use Rattle.std.specs.Prelude.{◌≡◌, ◌⊎◌, ◌<◌, ◌≤◌, ◌-◌, ◌^◌, ⊤, ℕ, true, false, ◌==◌, List, [], ◌∷◌, ◌++◌, length, take, map, filter, Option, Some, None, if◌then◌else◌}
use Rattle.std.specs.Int.{w64}
use Rattle.std.specs.List.{flat_map}
use Rattle.std.specs.Io.KnownBytes.{Appends}
use Rattle.fc_base.specs.Counted.{has}
use Rattle.fc_base.specs.Layouts.{bytes_of}
use Rattle.fc_base.specs.declared.fault.Fault.{Fault}
use Rattle.fc_base.specs.declared.fault.Fault.TheVariants as faults
use Rattle.fc_base.specs.declared.record.JobParts.{JobParts}
use Rattle.verify_state.specs.State.{State}
use Rattle.verify_state.specs.Spelling.{spelling}
use Rattle.engine.specs.History.{Event, issues, open_writes}
use Rattle.engine.specs.Running.{Origin}
use Rattle.engine.specs.Taken.{state_after}
use Rattle.targets.specs.declared.notice.Notice.{Notice}
use Rattle.targets.specs.declared.notice.Notice.TheVariants.{Done, Failed, Take}
use Rattle.targets.specs.declared.tour_word.TourWord.{TourWord}
use Rattle.targets.specs.declared.tour_word.TourWord.TheVariants.{Begin, Told}
use Rattle.targets.specs.declared.tile.TheConstants.{MAX_OPEN}
use Rattle.targets.specs.declared.tour.TourEnd.{TourEnd}
use Rattle.targets.specs.declared.tour.TourEnd.TheVariants.{Over, Refused}
use Rattle.targets.specs.Orders.{order_bytes}
use Rattle.targets.specs.Runs.{IsHistory}
use Rattle.targets.specs.Jobs.{key_of}
use Rattle.targets.specs.TourWords.{word_bytes, words_bytes, Fits, IsWordIn, begun, run_of, open_tiles, told_of}

-- What a tour writes: an order of a tile, which has these bytes, or the state of one.
pub data Piece : Type 0 where
  order : ℕ → List ℕ → Piece
  state : ℕ → State → Piece

-- The tile that a piece is of.
abbrev pub tile_of : Piece → ℕ
tile_of (order t bytes) = t
tile_of (state t taken) = t

-- The bytes of a piece: the number of its tile, eight bytes, stands in front of an order and behind
-- a state.
abbrev pub piece_bytes : Piece → List ℕ
piece_bytes (order t bytes) = bytes_of w64 t ++ bytes
piece_bytes (state t taken) = spelling taken ++ bytes_of w64 t

-- The pieces that are of a tile.
abbrev pub pieces_of : List Piece → ℕ → List Piece
pieces_of pieces t = filter (λ piece. tile_of piece == t) pieces

-- Where the writes of a tile come from that is this run: server 0's job of this number.
abbrev pub origin_of : ℕ → JobParts → ℕ → Origin
origin_of number job run = record { boot = 0; key = key_of run number; job = job }

-- The orders of a tile by its history: one for each write that was issued, in their order.
abbrev pub orders_of : Origin → ℕ → List Event → List Piece
orders_of origin t h = map (λ k. order t (order_bytes origin.key origin.job k)) (issues h)

-- A tile has the history of what was told of its own writes. Its pieces are just the orders of that,
-- and behind them the state of that, unless it is open still.
pub record IsTile (number : ℕ) (job : JobParts) (words : List TourWord) (pieces : List Piece)
    (t run : ℕ) : Type 0 where
  pub history : List Event
  pub is_history : IsHistory (origin_of number job run) (told_of words t) history
  pub pieces_are : pieces_of pieces t
      ≡ orders_of (origin_of number job run) t history
      ++ (if has (open_tiles words) t then []
      else state t (state_after (origin_of number job run) history) ∷ [])

-- A tile that was begun is such a one. Another has no piece.
abbrev pub IsAnyTile : ℕ → JobParts → List TourWord → List Piece → ℕ → Option ℕ → Type 0
IsAnyTile number job words pieces t (Some run) = IsTile number job words pieces t run
IsAnyTile number job words pieces t None = pieces_of pieces t ≡ []

-- A word may come behind others: the next tile is begun where fewer than 64 are open, as a run from 1
-- to 2^64 - 1; and something is told of a tile only while that is open.
abbrev pub MayCome : List TourWord → TourWord → Type 0
MayCome words (Begin tile run) =
    (tile ≡ begun words) × (1 ≤ run) × (run < 2 ^ 64) × (length (open_tiles words) < MAX_OPEN)
MayCome words (Told tile n) = has (open_tiles words) tile ≡ true

-- Behind each word of a tour some pieces are written, and then each tile has the pieces that what
-- was told of it until then asks for. In a list of words the last one stands first.
abbrev pub IsTour : ℕ → JobParts → List TourWord → List Piece → Type 0
IsTour number job [] pieces = pieces ≡ []
IsTour number job (w ∷ ws) pieces =
    (before : List Piece) × (more : List Piece) × IsTour number job ws before × MayCome ws w
    × (pieces ≡ before ++ more)
    × ((t : ℕ) → IsAnyTile number job (w ∷ ws) pieces t (run_of (w ∷ ws) t))

-- This word is next, and then `behind`.
abbrev pub IsNext : List ℕ → TourWord → List ℕ → Type 0
IsNext rest w behind = rest ≡ word_bytes w ++ behind

-- The next 24 bytes are no word.
pub record IsNoWord (rest : List ℕ) : Type 0 where
  pub long : 24 ≤ length rest
  pub none : IsWordIn (take 24 rest) None

-- A notice is of the end of a write that isn't open in its tile.
pub record EndsNoWrite (number : ℕ) (job : JobParts) (words : List TourWord) (tile : ℕ)
    (notice : Notice) : Type 0 where
  pub run : ℕ
  pub write : ℕ
  pub history : List Event
  pub told : (notice ≡ Done write) ⊎ (notice ≡ Failed write)
  pub run_is : run_of words tile ≡ Some run
  pub is_history : IsHistory (origin_of number job run) (told_of words tile) history
  pub none : has (open_writes history) write ≡ false

-- Why a tile isn't begun: another number is the next one, or the run is 0; as many tiles are open as
-- may be; or there is no memory for it.
abbrev pub RefusesBegin : List TourWord → ℕ → ℕ → Fault → Type 0
RefusesBegin words tile run faults.BadNotice = tile ≡ begun words → 1 ≤ run → ⊥
RefusesBegin words tile run faults.Busy =
    (tile ≡ begun words) × (1 ≤ run) × (MAX_OPEN ≤ length (open_tiles words))
RefusesBegin words tile run faults.NoMemory = MayCome words (Begin tile run)
RefusesBegin words tile run fault = ⊥

-- Why nothing is heard of a tile: it isn't open, or the write isn't that is told of; or there is no
-- memory for its state.
abbrev pub RefusesTold : ℕ → JobParts → List TourWord → ℕ → Notice → Fault → Type 0
RefusesTold number job words tile notice faults.NotInFlight =
    (has (open_tiles words) tile ≡ false) ⊎ EndsNoWrite number job words tile notice
RefusesTold number job words tile notice faults.NoMemory =
    (notice ≡ Take) × MayCome words (Told tile notice)
RefusesTold number job words tile notice fault = ⊥

-- Why a word is refused.
abbrev pub RefusesWord : ℕ → JobParts → List TourWord → TourWord → Fault → Type 0
RefusesWord number job words (Begin tile run) fault = RefusesBegin words tile run fault
RefusesWord number job words (Told tile notice) fault =
    RefusesTold number job words tile notice fault

-- The next word is refused.
pub record RefusesNext (number : ℕ) (job : JobParts) (rest : List ℕ) (words : List TourWord)
    (fault : Fault) : Type 0 where
  pub word : TourWord
  pub behind : List ℕ
  pub is_next : IsNext rest word behind
  pub fits : Fits word
  pub why : RefusesWord number job words word fault

-- How a tour ends behind these words, and with this rest of the input: at its end, where no tile is
-- open; or where the next word is refused or is none, the input ends too early or can't be read,
-- there is no memory to begin with, or 2^64 - 1 words were read.
abbrev pub Ends : ℕ → JobParts → List ℕ → List TourWord → TourEnd → Type 0
Ends number job rest words Over = (rest ≡ []) × (open_tiles words ≡ [])
Ends number job rest words (Refused faults.EndOfInput) =
    (length rest < 24) × (rest ≡ [] → open_tiles words ≡ [] → ⊥)
Ends number job rest words (Refused faults.ReadError) = ⊤
Ends number job rest words (Refused faults.NumbersSpent) = length words ≡ 2 ^ 64 - 1
Ends number job rest words (Refused faults.BadNotice) =
    IsNoWord rest ⊎ RefusesNext number job rest words faults.BadNotice
Ends number job rest words (Refused faults.NoMemory) =
    (words ≡ []) ⊎ RefusesNext number job rest words faults.NoMemory
Ends number job rest words (Refused fault) = RefusesNext number job rest words fault

-- Some words of an input were read, just the pieces of their tour are written, and it ends so.
pub record Tours (number : ℕ) (job : JobParts) (input : List ℕ) (old new : Option (List ℕ))
    (end : TourEnd) : Type 0 where
  pub words : List TourWord
  pub pieces : List Piece
  pub rest : List ℕ
  pub is_tour : IsTour number job words pieces
  pub told : input ≡ words_bytes words ++ rest
  pub written : Appends old new (flat_map piece_bytes pieces)
  pub ended : Ends number job rest words end
