-- Lists of numbers of writes.
use Rattle.std.specs.Prelude.{ℕ, ◌-◌, ◌==◌, not, List, length, drop, filter}

-- The list without this number.
abbrev pub without : ℕ → List ℕ → List ℕ
without k writes = filter (λ j. not (j == k)) writes

-- The last n of a list, or all where there are fewer.
abbrev pub last_of : ℕ → List ℕ → List ℕ
last_of n writes = drop (length writes - n) writes
