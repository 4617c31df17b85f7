-- Which writes a verify state counts as completed.
use Rattle.std.specs.Prelude.{ℕ, zero, suc, ◌+◌, ◌*◌, min, Bool, true, not, ◌&&◌, ◌||◌, ◌==◌, List, [], ◌∷◌, ◌++◌, length, filter, nat_lt, nat_le}
use Rattle.std.specs.List.{list_all, list_any}

-- The list has this number.
abbrev pub has : List ℕ → ℕ → Bool
has writes k = list_any (λ j. j == k) writes

-- The numbers below n, ascending.
abbrev pub numbers_below : ℕ → List ℕ
numbers_below zero = []
numbers_below (suc n) = numbers_below n ++ n ∷ []

-- A write counts where it is among the last completions, or more than a window below the number
-- issued.
abbrev pub is_counted : ℕ → ℕ → List ℕ → ℕ → Bool
is_counted window issued completions k = has completions k || nat_lt (k + window) issued

-- The issued writes that count, ascending.
abbrev pub counted : ℕ → ℕ → List ℕ → List ℕ
counted window issued completions =
    filter (is_counted window issued completions) (numbers_below issued)

-- The issued writes that don't count, ascending.
abbrev pub uncounted : ℕ → ℕ → List ℕ → List ℕ
uncounted window issued completions =
    filter (λ k. not (is_counted window issued completions k)) (numbers_below issued)

-- No number stands twice.
abbrev pub is_distinct : List ℕ → Bool
is_distinct [] = true
is_distinct (k ∷ ks) = not (has ks k) && is_distinct ks

-- A list of completions and a number issued that some job can have come to: no write stands twice,
-- each was issued, at most depth of the issued ones don't count, and none is left out of the list
-- but for want of room.
abbrev pub is_possible : ℕ → ℕ → ℕ → List ℕ → Bool
is_possible depth window issued completions =
    is_distinct completions && list_all (λ k. nat_lt k issued) completions
    && (nat_le (length (uncounted window issued completions)) depth
    && length completions == min (2 * window) (length (counted window issued completions)))
