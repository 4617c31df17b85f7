-- The words of the generator of random orders: xoshiro256++, seeded with a number by SplitMix64, as
-- `seed_from_u64` does.
use Rattle.std.specs.Prelude.{ℕ, zero, suc, ◌+◌, List, [], ◌∷◌}
use Rattle.rand_xoshiro.specs.SplitMix64.{splitmix_seed}
use Rattle.rand_xoshiro.specs.Xoshiro256.{of_seed, next_state, plus_plus}

-- The generator's state after n words.
unfoldable pub state_after : ℕ → ℕ → List ℕ
state_after seed zero = of_seed (splitmix_seed 32 seed)
state_after seed (suc n) = next_state (state_after seed n)

-- Word n of the generator, counted from 0.
unfoldable pub word : ℕ → ℕ → ℕ
word seed n = (plus_plus (state_after seed n)).0

-- Words n to n + 3, which the generator gives next after n words.
abbrev pub four_words : ℕ → ℕ → List ℕ
four_words seed n = word seed n ∷ word seed (n + 1) ∷ word seed (n + 2) ∷ word seed (n + 3) ∷ []
