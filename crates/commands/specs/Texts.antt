-- The two texts of an input, which a line that is a dot parts.
use Rattle.std.specs.Prelude.{◌≡◌, ◌⊎◌, ◌<◌, ℕ, ◌+◌, ◌-◌, ◌==◌, ◌&&◌, ◌||◌, Bool, true, false, List, [], length, take, drop, get_or}

-- At this place a line begins, and it is a dot.
abbrev pub is_closing : List ℕ → ℕ → Bool
is_closing input at =
    ((at == 0) || (get_or input (at - 1) 0 == 10)) &&
    ((get_or input at 0 == 46) && (get_or input (at + 1) 10 == 10))

-- This is the first place where a line begins that is a dot.
pub record IsFirstClosing (input : List ℕ) (at : ℕ) : Type 0 where
  pub inside : at < length input
  pub closing : is_closing input at ≡ true
  pub first : (earlier : ℕ) → earlier < at → is_closing input earlier ≡ false

-- The writing text stands before the first such line and the reading text behind it; without such a
-- line the input is the writing text, and the reading text is empty.
abbrev pub AreTexts : List ℕ → List ℕ → List ℕ → Type 0
AreTexts input writing reading =
    ((at : ℕ) × IsFirstClosing input at × (writing ≡ take at input)
    × (reading ≡ drop (at + 2) input))
    ⊎ (((at : ℕ) → at < length input → is_closing input at ≡ false) × (writing ≡ input)
    × (reading ≡ []))
