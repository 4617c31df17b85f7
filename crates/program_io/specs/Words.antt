-- Words of a line, and what is written.
use Rattle.std.specs.Prelude.{◌≡◌, ℕ, List, ◌++◌, Option, codes}
use Rattle.std.specs.List.{join_with_byte}
use Rattle.std.specs.Str.Parse.{IsNumeral, digits_value, without_leading_plus}
use Rattle.std.specs.Io.KnownBytes.{Appends}

-- The word is this number: decimal digits, with a plus before them or none.
abbrev pub IsNumber : List ℕ → ℕ → Type 0
IsNumber word number =
    IsNumeral 10 (without_leading_plus word)
    × (digits_value 10 (without_leading_plus word) ≡ number)

-- Words separated by blanks.
abbrev pub with_blanks_between : List (List ℕ) → List ℕ
with_blanks_between words = join_with_byte 32 words

-- A word with a blank before it.
abbrev pub blank_before : List ℕ → List ℕ
blank_before word = codes " " ++ word

-- A line with its line feed.
abbrev pub with_line_feed : List ℕ → List ℕ
with_line_feed line = line ++ codes "\n"

-- This text is written and nothing else, and this is the status.
abbrev pub Finishes : List ℕ → ℕ → Option (List ℕ) → Option (List ℕ) → ℕ → Type 0
Finishes text wanted old new status = Appends old new text × (status ≡ wanted)
