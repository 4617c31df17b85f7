-- The first word of a line, and the words behind it.
use Rattle.std.proofs.Common.{◌≡◌, ℕ, ◌+◌, ◌<◌, Bool, true, false, cond, not, suc, List, [], ◌∷◌, length, take, drop, filter, nat_lt, refl, sym, ◌∙◌, ap, arith}
use Rattle.std.specs.List.{slice_split, onto_first, prefix_len, position_or_len}
use Rattle.std.proofs.lemmas.Bool.Decides.{nat_tests}
use Rattle.net_script.specs.Words.{is_blank, is_word, words_of}

pub one_more : (n : ℕ) → 1 + n ≡ suc n
one_more n = omega arith

take_more : (n b : ℕ) (bs : List ℕ) → take (1 + n) (b ∷ bs) ≡ b ∷ take n bs
take_more n b bs = ap (λ k. take k (b ∷ bs)) (one_more n)

drop_more : (n b : ℕ) (bs : List ℕ) → drop (1 + n) (b ∷ bs) ≡ drop n bs
drop_more n b bs = ap (λ k. drop k (b ∷ bs)) (one_more n)

-- The parts behind the first one, from the blank on.
abbrev behind : List ℕ → List (List ℕ)
behind [] = []
behind (b ∷ bs) = slice_split is_blank bs

first_part : (bs : List ℕ) → slice_split is_blank bs ≡ take (position_or_len is_blank bs) bs ∷ behind (drop (position_or_len is_blank bs) bs)
first_part [] = refl
first_part (b ∷ bs) = by_head (first_part bs) (is_blank b)
  where
    by_head : slice_split is_blank bs ≡ take (position_or_len is_blank bs) bs ∷ behind (drop (position_or_len is_blank bs) bs) → (t : Bool)
        → cond t ([] ∷ slice_split is_blank bs) (onto_first b (slice_split is_blank bs))
        ≡ take (cond (not t) (1 + position_or_len is_blank bs) 0) (b ∷ bs) ∷ behind (drop (cond (not t) (1 + position_or_len is_blank bs) 0) (b ∷ bs))
    by_head rest true = refl
    by_head rest false =
        ap (onto_first b) (rest)
        ∙ ap (λ part. part ∷ behind (drop (position_or_len is_blank bs) bs)) (sym (take_more (position_or_len is_blank bs) b bs))
        ∙ ap (λ tail. take (1 + position_or_len is_blank bs) (b ∷ bs) ∷ behind tail) (sym (drop_more (position_or_len is_blank bs) b bs))

-- A blank in front changes no word.
skip_blank : (b : ℕ) (bs : List ℕ) → is_blank b ≡ true → words_of (b ∷ bs) ≡ words_of bs
skip_blank b bs is = ap (λ t. filter is_word (cond t ([] ∷ slice_split is_blank bs) (onto_first b (slice_split is_blank bs)))) is

-- The words behind the first part are those from the blank on.
words_behind : (bs : List ℕ) → filter is_word (behind (drop (position_or_len is_blank bs) bs)) ≡ words_of (drop (position_or_len is_blank bs) bs)
words_behind [] = refl
words_behind (b ∷ bs) = by_head (words_behind bs) (is_blank b) refl
  where
    by_head : filter is_word (behind (drop (position_or_len is_blank bs) bs)) ≡ words_of (drop (position_or_len is_blank bs) bs) → (t : Bool) → is_blank b ≡ t
        → filter is_word (behind (drop (cond (not t) (1 + position_or_len is_blank bs) 0) (b ∷ bs)))
        ≡ words_of (drop (cond (not t) (1 + position_or_len is_blank bs) 0) (b ∷ bs))
    by_head rest true is = sym (skip_blank b bs is)
    by_head rest false is =
        ap (λ tail. filter is_word (behind tail)) (drop_more (position_or_len is_blank bs) b bs)
        ∙ rest ∙ ap words_of (sym (drop_more (position_or_len is_blank bs) b bs))

-- Blanks in front change no word.
pub skip_blanks : (bs : List ℕ) → words_of bs ≡ words_of (drop (prefix_len is_blank bs) bs)
skip_blanks [] = refl
skip_blanks (b ∷ bs) = by_head (skip_blanks bs) (is_blank b) refl
  where
    by_head : words_of bs ≡ words_of (drop (prefix_len is_blank bs) bs) → (t : Bool) → is_blank b ≡ t
        → words_of (b ∷ bs) ≡ words_of (drop (cond t (1 + prefix_len is_blank bs) 0) (b ∷ bs))
    by_head rest true is = skip_blank b bs is ∙ rest ∙ ap words_of (sym (drop_more (prefix_len is_blank bs) b bs))
    by_head rest false is = refl

-- Behind the blanks in front a word stands, or nothing.
pub none_behind_blanks : (bs : List ℕ) → position_or_len is_blank (drop (prefix_len is_blank bs) bs) ≡ 0 → words_of (drop (prefix_len is_blank bs) bs) ≡ []
none_behind_blanks [] none = refl
none_behind_blanks (b ∷ bs) none = by_head (none_behind_blanks bs) (is_blank b) refl none
  where
    by_head : (position_or_len is_blank (drop (prefix_len is_blank bs) bs) ≡ 0 → words_of (drop (prefix_len is_blank bs) bs) ≡ []) → (t : Bool) → is_blank b ≡ t
        → position_or_len is_blank (drop (cond t (1 + prefix_len is_blank bs) 0) (b ∷ bs)) ≡ 0
        → words_of (drop (cond t (1 + prefix_len is_blank bs) 0) (b ∷ bs)) ≡ []
    by_head rest true is none =
        ap words_of (drop_more (prefix_len is_blank bs) b bs)
        ∙ rest (ap (position_or_len is_blank) (sym (drop_more (prefix_len is_blank bs) b bs)) ∙ none)
    by_head rest false is none = absurd (omega (arith, sym none ∙ ap (λ t. cond (not t) (1 + position_or_len is_blank bs) 0) is))

first_is_kept : (b : ℕ) (bs : List ℕ) (parts : List (List ℕ)) → filter is_word ((b ∷ bs) ∷ parts) ≡ (b ∷ bs) ∷ filter is_word parts
first_is_kept b bs parts = ap (λ t. cond t ((b ∷ bs) ∷ filter is_word parts) (filter is_word parts)) (some (length bs))
  where
    some : (n : ℕ) → nat_lt 0 (suc n) ≡ true
    some n = grind (arith, nat_tests)

-- The first word, and those behind it.
pub first_word : (bs : List ℕ) → 0 < position_or_len is_blank bs
    → words_of bs ≡ take (position_or_len is_blank bs) bs ∷ words_of (drop (position_or_len is_blank bs) bs)
first_word [] some = absurd (omega (arith, some))
first_word (b ∷ bs) some = by_head (is_blank b) refl some
  where
    by_head : (t : Bool) → is_blank b ≡ t → 0 < cond (not t) (1 + position_or_len is_blank bs) 0
        → words_of (b ∷ bs) ≡ take (cond (not t) (1 + position_or_len is_blank bs) 0) (b ∷ bs) ∷ words_of
        (drop (cond (not t) (1 + position_or_len is_blank bs) 0) (b ∷ bs))
    by_head true is some = absurd (omega (arith, some))
    by_head false is some =
        ap (λ t. filter is_word (cond t ([] ∷ slice_split is_blank bs) (onto_first b (slice_split is_blank bs)))) is
        ∙ ap (λ parts. filter is_word (onto_first b parts)) (first_part bs)
        ∙ first_is_kept b (take (position_or_len is_blank bs) bs) (behind (drop (position_or_len is_blank bs) bs))
        ∙ ap (λ words. (b ∷ take (position_or_len is_blank bs) bs) ∷ words) (words_behind bs)
        ∙ ap (λ word. word ∷ words_of (drop (position_or_len is_blank bs) bs)) (sym (take_more (position_or_len is_blank bs) b bs))
        ∙ ap (λ rest. take (1 + position_or_len is_blank bs) (b ∷ bs) ∷ words_of rest) (sym (drop_more (position_or_len is_blank bs) b bs))

-- Where no word stands behind the blanks in front, the line has none.
pub no_words : (line words : List ℕ) (skip len : ℕ)
    → skip ≡ prefix_len is_blank line → words ≡ drop skip line → len ≡ position_or_len is_blank words
    → len ≡ 0 → words_of line ≡ []
no_words line words skip len skips behind ends none =
    skip_blanks line ∙ ap words_of (sym words_are) ∙ ap words_of words_are
    ∙ none_behind_blanks line (ap (position_or_len is_blank) (sym words_are) ∙ sym ends ∙ none)
  where
    words_are : words ≡ drop (prefix_len is_blank line) line
    words_are = behind ∙ ap (λ n. drop n line) skips

-- The word behind them is the first of the line.
pub splits_word : (line words : List ℕ) (skip len : ℕ)
    → skip ≡ prefix_len is_blank line → words ≡ drop skip line → len ≡ position_or_len is_blank words
    → ¬ (len ≡ 0) → words_of line ≡ take len words ∷ words_of (drop len words)
splits_word line words skip len skips behind ends some =
    skip_blanks line ∙ ap words_of (sym (behind ∙ ap (λ n. drop n line) skips))
    ∙ first_word words (omega (arith, ends, some))
    ∙ ap (λ n. take n words ∷ words_of (drop n words)) (sym ends)
