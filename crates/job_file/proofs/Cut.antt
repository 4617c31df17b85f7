-- The first line of a text, and the lines behind it.
use Rattle.std.proofs.Common.{◌≡◌, ◌==◌, ℕ, ◌+◌, ◌<◌, Bool, false, cond, List, [], ◌∷◌}
use Rattle.std.proofs.Common.{length, take, drop, Some, None, position, refl, ◌∙◌, ap, ltb, arith}
use Rattle.std.specs.List.{list_any, slice_split, onto_first, position_or_len}
use Rattle.std.specs.Str.Lines.{lines, lines_of_parts, strip_carriage_return}
use Rattle.std.proofs.lemmas.Bool.{or_parts}
use Rattle.std.proofs.lemmas.Bool.Decides.{nat_tests}
use Rattle.std.proofs.lemmas.List.Splits.{slice_split_first, length-slice_split}
use Rattle.job_file.proofs.Texts.{list_any_is, found_at, found_nowhere}

abbrev is_line_feed : ℕ → Bool
is_line_feed b = b == 10

-- Each part before the last is a line.
lines_of_parts_more : (x : List ℕ) (parts : List (List ℕ)) → 0 < length parts → lines_of_parts (x ∷ parts) ≡ strip_carriage_return x ∷ lines_of_parts parts
lines_of_parts_more x [] some = absurd (omega arith)
lines_of_parts_more x (y ∷ more) some = refl

-- What is not cut is one part.
split_whole : (xs : List ℕ) → list_any is_line_feed xs ≡ false → slice_split is_line_feed xs ≡ xs ∷ []
split_whole [] none = refl
split_whole (x ∷ xs) none =
    let parts = or_parts (is_line_feed x) (list_any is_line_feed xs) none in
    ap (λ b. cond b ([] ∷ slice_split is_line_feed xs) (onto_first x (slice_split is_line_feed xs))) parts.0 ∙ ap (onto_first x) (split_whole xs parts.1)

-- The first line ends at the first line feed.
pub first_of_lines : (text : List ℕ) (end : ℕ) → position is_line_feed text ≡ Some end
    → lines text ≡ strip_carriage_return (take end text) ∷ lines (drop (end + 1) text)
first_of_lines text end is =
    let found = found_at (ltb (position_or_len is_line_feed text) (length text)) (position_or_len is_line_feed text) end is in
    let within : position_or_len is_line_feed text < length text = grind (arith, nat_tests) in
    let rest = slice_split is_line_feed (drop (end + 1) text) in
    let parts : slice_split is_line_feed text ≡ take end text ∷ rest =
    slice_split_first is_line_feed text 0 within ∙ ap (λ n. take n text ∷ slice_split is_line_feed (drop (n + 1) text)) found.1 in
    ap lines_of_parts parts ∙ lines_of_parts_more (take end text) rest (omega (arith, length-slice_split is_line_feed (drop (end + 1) text)))

pub whole_line : (n : ℕ) (xs : List ℕ) → 0 < n → cond (n == 0) [] (xs ∷ []) ≡ xs ∷ []
whole_line n xs some = grind (arith, nat_tests)

-- Without a line feed the text is one line.
pub lines_whole : (text : List ℕ) → 0 < length text → position is_line_feed text ≡ None → lines text ≡ text ∷ []
lines_whole text some is =
    let none = list_any_is is_line_feed text ∙ found_nowhere (ltb (position_or_len is_line_feed text) (length text)) (position_or_len is_line_feed text) is in
    ap lines_of_parts (split_whole text none) ∙ whole_line (length text) text some
