-- The marks of a job's last writes, a bit for each number from the floor on: four words, as wide as
-- the widest window.
use Rattle.std.specs.Prelude.{ℕ, ◌+◌, ◌-◌, ◌/◌, ◌%◌, Bool, not, ◌&&◌, ◌||◌, ◌==◌, nat_lt, nat_le, List, [], ◌∷◌, length, slice_index, filter, map, count_ones}
use Rattle.std.specs.List.{list_all, range_with_len}
use Rattle.std.specs.Int.{bit_at}
use lib.Lanes.{mask_l}
use Rattle.fc_base.specs.declared.limits.TheConstants.{MAX_WINDOW}
use Rattle.fc_base.specs.Counted.{numbers_below}

-- The first number of the last window of those issued: every write below it has completed.
abbrev pub floor_of : ℕ → ℕ → ℕ
floor_of window issued = issued - window

-- The word whose binary digits, the lowest first, say which of the 64 numbers from this one on
-- pass.
unfoldable pub word_of : (ℕ → Bool) → ℕ → ℕ
word_of passes first = mask_l (map passes (range_with_len first 64))

-- Four words that say so of the numbers from the floor on.
abbrev pub marks_of : (ℕ → Bool) → ℕ → List ℕ
marks_of passes floor =
    word_of passes floor ∷ word_of passes (floor + 64) ∷ word_of passes (floor + 128)
    ∷ word_of passes (floor + 192) ∷ []

-- Bit i of the marks: 64 bits a word, the lowest first.
unfoldable pub is_marked : List ℕ → ℕ → Bool
is_marked marks i = bit_at (slice_index marks (i / 64)) (i % 64) == 1

-- No bit from n on is set.
unfoldable pub ends_by : ℕ → List ℕ → Bool
ends_by n marks = list_all (λ i. not (is_marked marks i)) (range_with_len n (MAX_WINDOW - n))

-- How many bits are set.
abbrev pub marked_count : List ℕ → ℕ
marked_count marks =
    count_ones (slice_index marks 0) + count_ones (slice_index marks 1) + count_ones
    (slice_index marks 2)
    + count_ones (slice_index marks 3)

-- A write counts by the marks where it lies below the floor, or its bit is set.
abbrev pub is_counted_by : ℕ → ℕ → List ℕ → ℕ → Bool
is_counted_by window issued marks k =
    let floor = floor_of window issued in
    nat_lt k floor || is_marked marks (k - floor)

-- The issued writes that count by the marks, ascending.
abbrev pub counted_by : ℕ → ℕ → List ℕ → List ℕ
counted_by window issued marks = filter (is_counted_by window issued marks) (numbers_below issued)

-- Marks and a number issued that some job can have come to: no bit is set for a number that was not
-- issued, and at most depth of the issued writes don't count.
abbrev pub is_possible_by : ℕ → ℕ → ℕ → List ℕ → Bool
is_possible_by depth window issued marks =
    ends_by (issued - floor_of window issued) marks
    && nat_le (issued - length (counted_by window issued marks)) depth
