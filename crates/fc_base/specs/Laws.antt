-- What holds of the numbers below a bound.
use Rattle.std.specs.Prelude.{◌≡◌, ℕ, nat_lt, length}
use Rattle.fc_base.specs.Counted.{has, numbers_below}

-- There are as many numbers below a bound as the bound says.
abbrev pub CountsThem : Type 0
CountsThem = (n : ℕ) → length (numbers_below n) ≡ n

-- The list of the numbers below a bound has just the numbers that are less than it.
abbrev pub HasJustThem : Type 0
HasJustThem = (n k : ℕ) → has (numbers_below n) k ≡ nat_lt k n
