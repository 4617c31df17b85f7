-- The words of a tour: a tile is begun, or something is told of the writes of one.
use Rattle.std.specs.Prelude.{◌≡◌, ◌<◌, ◌^◌, ℕ, suc, ◌==◌, List, [], ◌∷◌, ◌++◌, Option, Some, None, option_map, if◌then◌else◌}
use Rattle.std.specs.Int.{w64}
use Rattle.fc_base.specs.Layouts.{bytes_of}
use Rattle.engine.specs.Numbers.{without}
use Rattle.targets.specs.declared.notice.Notice.{Notice}
use Rattle.targets.specs.declared.notice.Notice.TheVariants.{Done, Failed, Take}
use Rattle.targets.specs.declared.tour_word.TourWord.{TourWord}
use Rattle.targets.specs.declared.tour_word.TourWord.TheVariants.{Begin, Told}
use Rattle.targets.specs.Notices.{notice_of, NoticeFits}

-- Three numbers of eight bytes each.
abbrev pub three_numbers : ℕ → ℕ → ℕ → List ℕ
three_numbers kind tile number = bytes_of w64 kind ++ (bytes_of w64 tile ++ bytes_of w64 number)

-- The 24 bytes of a word: what it says, the number of the tile, and that of its run or of a write,
-- which is 0 for a take.
abbrev pub word_bytes : TourWord → List ℕ
word_bytes (Begin tile run) = three_numbers 4 tile run
word_bytes (Told tile (Done k)) = three_numbers 1 tile k
word_bytes (Told tile (Failed k)) = three_numbers 2 tile k
word_bytes (Told tile Take) = three_numbers 3 tile 0

-- The numbers of a word have eight bytes.
abbrev pub Fits : TourWord → Type 0
Fits (Begin tile run) = (tile < 2 ^ 64) × (run < 2 ^ 64)
Fits (Told tile n) = (tile < 2 ^ 64) × NoticeFits n

-- The bytes of words. In a list of them the last one stands first.
abbrev pub words_bytes : List TourWord → List ℕ
words_bytes [] = []
words_bytes (w ∷ ws) = words_bytes ws ++ word_bytes w

-- The word of these three numbers, if they are one's.
abbrev pub word_of : ℕ → ℕ → ℕ → Option TourWord
word_of kind tile number =
    if kind == 4 then Some (Begin tile number)
    else option_map (Told tile) (notice_of kind number)

-- The word that 24 bytes are, or none where no word has them.
abbrev pub IsWordIn : List ℕ → Option TourWord → Type 0
IsWordIn bytes (Some w) = (bytes ≡ word_bytes w) × Fits w
IsWordIn bytes None = (w : TourWord) → bytes ≡ word_bytes w → ⊥

-- How many tiles were begun, which is also the number of the next one.
abbrev pub begun : List TourWord → ℕ
begun [] = 0
begun (Begin tile run ∷ ws) = suc (begun ws)
begun (Told tile n ∷ ws) = begun ws

-- The run of a tile, if it was begun.
abbrev pub run_of : List TourWord → ℕ → Option ℕ
run_of [] t = None
run_of (Begin tile run ∷ ws) t = if tile == t then Some run else run_of ws t
run_of (Told tile n ∷ ws) t = run_of ws t

-- The tiles that are open, in the order in which they were begun: those of which no state was taken
-- since.
abbrev pub open_tiles : List TourWord → List ℕ
open_tiles [] = []
open_tiles (Begin tile run ∷ ws) = open_tiles ws ++ tile ∷ []
open_tiles (Told tile (Done k) ∷ ws) = open_tiles ws
open_tiles (Told tile (Failed k) ∷ ws) = open_tiles ws
open_tiles (Told tile Take ∷ ws) = without tile (open_tiles ws)

-- What was told of the writes of a tile, the last notice first. A take is none of them.
abbrev pub told_of : List TourWord → ℕ → List Notice
told_of [] t = []
told_of (Begin tile run ∷ ws) t = told_of ws t
told_of (Told tile (Done k) ∷ ws) t =
    if tile == t then Done k ∷ told_of ws t else told_of ws t
told_of (Told tile (Failed k) ∷ ws) t =
    if tile == t then Failed k ∷ told_of ws t else told_of ws t
told_of (Told tile Take ∷ ws) t = told_of ws t
