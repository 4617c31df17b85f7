-- The lines of a script, their words, and the numbers that words spell.
use Rattle.std.specs.Prelude.{ℕ, Bool, ◌==◌, ◌&&◌, ◌||◌, nat_lt, ◌^◌, List, [], ◌∷◌, length, filter, Option, Some, None, if◌then◌else◌}
use Rattle.std.specs.List.{slice_split, list_all}
use Rattle.std.specs.Char.{is_ascii_digit}
use Rattle.std.specs.Str.Parse.{digits_value}

-- A byte is a line feed.
abbrev pub is_line_feed : ℕ → Bool
is_line_feed b = b == 10

-- A space or a tab.
abbrev pub is_blank : ℕ → Bool
is_blank b = b == 32 || b == 9

-- Lines end at line feeds; what stands behind the last is a line where it has a byte.
abbrev pub ended_parts : List (List ℕ) → List (List ℕ)
ended_parts [] = []
ended_parts (part ∷ []) = if length part == 0 then [] else part ∷ []
ended_parts (part ∷ next ∷ more) = part ∷ ended_parts (next ∷ more)

-- The lines of a script.
abbrev pub lines_of : List ℕ → List (List ℕ)
lines_of script = ended_parts (slice_split is_line_feed script)

-- A word has a byte.
abbrev pub is_word : List ℕ → Bool
is_word part = nat_lt 0 (length part)

-- The words of a line, which blanks separate.
abbrev pub words_of : List ℕ → List (List ℕ)
words_of line = filter is_word (slice_split is_blank line)

-- The number that a word spells: decimal digits, at least one, at most 2 ^ 64 - 1.
abbrev pub number_of : List ℕ → Option ℕ
number_of word =
    if is_word word && list_all is_ascii_digit word && nat_lt (digits_value 10 word) (2 ^ 64)
    then Some (digits_value 10 word) else None
