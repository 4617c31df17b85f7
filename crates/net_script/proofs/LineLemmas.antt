-- The first line of a script, and the lines behind it.
use Rattle.std.proofs.Common.{◌≡◌, ℕ, ◌+◌, ◌<◌, ◌≤◌, Bool, true, false, cond, not, suc, List, []}
use Rattle.std.proofs.Common.{◌∷◌, ◌++◌, length, take, drop, append_assoc, refl, sym, ◌∙◌, ap, arith}
use Rattle.std.specs.List.{slice_split, onto_first, position_or_len}
use Rattle.std.proofs.lemmas.Bool.Decides.{nat_tests}
use Rattle.std.proofs.lemmas.List.{take-append-drop}
use Rattle.std.proofs.lemmas.List.Splits.{slice_split_first, length-slice_split}
use Rattle.job_file.proofs.Cut.{whole_line}
use Rattle.net_script.specs.Words.{is_line_feed, ended_parts, lines_of}
use Rattle.net_script.proofs.WordLemmas.{one_more}
use Rattle.program_io.specs.Words.{with_line_feed}

-- Each part before the last is a line.
ended_more : (x : List ℕ) (parts : List (List ℕ)) → 0 < length parts → ended_parts (x ∷ parts) ≡ x ∷ ended_parts parts
ended_more x [] some = absurd (omega arith)
ended_more x (y ∷ more) some = refl

-- What has no line feed is one part.
split_whole : (xs : List ℕ) → position_or_len is_line_feed xs ≡ length xs → slice_split is_line_feed xs ≡ xs ∷ []
split_whole [] all = refl
split_whole (x ∷ xs) all = by_head (split_whole xs) (is_line_feed x) refl
  where
    by_head : (position_or_len is_line_feed xs ≡ length xs → slice_split is_line_feed xs ≡ xs ∷ []) → (t : Bool) → is_line_feed x ≡ t
        → cond t ([] ∷ slice_split is_line_feed xs) (onto_first x (slice_split is_line_feed xs)) ≡ (x ∷ xs) ∷ []
    by_head rest true is = absurd (omega (arith, sym (ap (λ t. cond (not t) (1 + position_or_len is_line_feed xs) 0) is) ∙ all))
    by_head rest false is =
        ap (onto_first x) (rest (omega (arith, sym (ap (λ t. cond (not t) (1 + position_or_len is_line_feed xs) 0) is) ∙ all)))

-- The first line ends at the first line feed.
pub first_of_lines : (script : List ℕ) (len : ℕ) → len ≡ position_or_len is_line_feed script → len < length script
    → lines_of script ≡ take len script ∷ lines_of (drop (len + 1) script)
first_of_lines script len is within =
    let inside : position_or_len is_line_feed script < length script = omega (arith, is, within) in
    let rest = slice_split is_line_feed (drop (len + 1) script) in
    let parts : slice_split is_line_feed script ≡ take len script ∷ rest =
    slice_split_first is_line_feed script 0 inside ∙ ap (λ n. take n script ∷ slice_split is_line_feed (drop (n + 1) script)) (sym is) in
    ap ended_parts parts ∙ ended_more (take len script) rest (omega (arith, length-slice_split is_line_feed (drop (len + 1) script)))

-- Without a line feed the script is one line.
pub line_whole : (script : List ℕ) (len : ℕ) → len ≡ position_or_len is_line_feed script → len ≤ length script → length script ≤ len → 0 < length script
    → lines_of script ≡ script ∷ []
line_whole script len is bound none some =
    ap ended_parts (split_whole script (omega (arith, is, bound, none))) ∙ whole_line (length script) script some

two_more : (n : ℕ) → 1 + n + 1 ≡ suc (n + 1)
two_more n = omega arith

-- The line feed stands behind the first line.
feed_stands : (script : List ℕ) → position_or_len is_line_feed script < length script
    → drop (position_or_len is_line_feed script) script ≡ 10 ∷ drop (position_or_len is_line_feed script + 1) script
feed_stands [] within = absurd (omega (arith, within))
feed_stands (x ∷ xs) within = by_head (feed_stands xs) (is_line_feed x) refl
  where
    by_head : (position_or_len is_line_feed xs < length xs → drop (position_or_len is_line_feed xs) xs ≡ 10 ∷ drop (position_or_len is_line_feed xs + 1) xs)
        → (t : Bool) → is_line_feed x ≡ t
        → drop (cond (not t) (1 + position_or_len is_line_feed xs) 0) (x ∷ xs) ≡ 10 ∷ drop (cond (not t) (1 + position_or_len is_line_feed xs) 0 + 1) (x ∷ xs)
    by_head rest true is = let feed : x ≡ 10 = grind (arith, nat_tests) in ap (λ b. b ∷ xs) feed
    by_head rest false is =
        let shorter : position_or_len is_line_feed xs < length xs = omega (arith, ap (λ t. cond (not t) (1 + position_or_len is_line_feed xs) 0) is, within) in
        ap (λ n. drop n (x ∷ xs)) (one_more (position_or_len is_line_feed xs))
        ∙ rest shorter
        ∙ ap (λ n. 10 ∷ drop n (x ∷ xs)) (sym (two_more (position_or_len is_line_feed xs)))

-- So the script is the line, its end, and what is behind.
pub first_bytes : (script : List ℕ) (len : ℕ) → len ≡ position_or_len is_line_feed script → len < length script
    → script ≡ with_line_feed (take len script) ++ drop (len + 1) script
first_bytes script len is within =
    let stands : drop len script ≡ 10 ∷ drop (len + 1) script =
    ap (λ n. drop n script) is ∙ feed_stands script (omega (arith, is, within)) ∙ ap (λ n. 10 ∷ drop (n + 1) script) (sym is) in
    sym (take-append-drop len script) ∙ ap (λ l. take len script ++ l) stands ∙ sym (append_assoc (take len script) (10 ∷ []) (drop (len + 1) script))
