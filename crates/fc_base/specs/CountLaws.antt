-- Laws of what marks count, and of the marks of what is counted. They are cited from above; the
-- proofs stand with them, and needn't be read.
use Rattle.std.proofs.Common.{◌≡◌, ℕ, ◌+◌, ◌-◌, ◌^◌, ◌<◌, ◌≤◌, zero, suc, Bool, true, false, not, cond, nat_lt, leb}
use Rattle.std.proofs.Common.{◌&&◌, ◌||◌, List, [], ◌∷◌, length, filter, map, refl, ap, sym, ◌∙◌, inl, inr, arith}
use Rattle.std.specs.Prelude.{count_ones}
use Rattle.std.specs.List.{AllByRecursion, range_with_len, list_all, count_by}
use Rattle.std.proofs.lemmas.Bool.{cases_lt, and_parts, and_from, lt-ltb, le-ltb, or_right, leb-true, le-leb}
use Rattle.std.proofs.lemmas.List.{length-append}
use Rattle.std.proofs.lemmas.List.Elements.{filter-append}
use Rattle.std.proofs.lemmas.List.Filters.{length-filter_both}
use Rattle.std.proofs.lemmas.List.Sums.{sum_by-cons}
use Rattle.std.proofs.lemmas.Simd.{ones-mask_l}
use lib.Lanes.{mask_l}
use Rattle.fc_base.specs.declared.limits.TheConstants.{MAX_WINDOW}
use Rattle.fc_base.specs.Counted.{has, numbers_below, is_counted, counted, uncounted, is_distinct, is_possible}
use Rattle.fc_base.specs.Marks.{floor_of, word_of, marks_of, is_marked, ends_by, marked_count, is_counted_by, counted_by, is_possible_by}
use Rattle.fc_base.specs.NumberLaws.{has_filter, has_numbers_below, length_numbers_below, filter_agree_below}
use Rattle.fc_base.specs.MarkLaws.{marks_from_bits, marked_passes, bits_end, ends_where}

-- The writes that marks count are those that were issued, and lie below the floor or have a bit.
pub has_counted_by : (window issued : ℕ) (marks : List ℕ) (k : ℕ) →
    has (counted_by window issued marks) k
    ≡ (nat_lt k issued && is_counted_by window issued marks k)
has_counted_by window issued marks k =
    has_filter (is_counted_by window issued marks) (numbers_below issued) k
    ∙ ap (λ b. b && is_counted_by window issued marks k) (has_numbers_below issued k)

or_false : (b c : Bool) → b ≡ false → (b || c) ≡ c
or_false b c e = rw e refl

-- From the floor on, the bit alone says whether a write counts.
from_floor : (window issued : ℕ) (marks : List ℕ) (i : ℕ)
    → is_counted_by window issued marks (floor_of window issued + i) ≡ is_marked marks i
from_floor window issued marks i =
    or_false _ _ (le-ltb (floor_of window issued + i) (floor_of window issued) (omega arith))
    ∙ ap (is_marked marks) (omega arith)

true_and : (a b : Bool) → a ≡ true → (a && b) ≡ b
true_and a b e = rw e refl

false_and : (a b : Bool) → a ≡ false → (a && b) ≡ false
false_and a b e = rw e refl

-- The marks of the writes that marks count are these marks.
pub marks_again : (window issued : ℕ) (marks : List ℕ) → length marks ≡ 4 →
    AllByRecursion (λ word. word < 2 ^ 64) marks →
    ends_by (issued - floor_of window issued) marks ≡ true →
    marks_of (has (counted_by window issued marks)) (floor_of window issued) ≡ marks
marks_again window issued marks four words ends =
    let floor = floor_of window issued in
    sym (marks_from_bits marks (has (counted_by window issued marks)) floor four words (λ i small.
    elim (cases_lt (floor + i) issued) [
      | inl here ↦
          sym (has_counted_by window issued marks (floor + i)
          ∙ true_and _ _ (lt-ltb (floor + i) issued here)
          ∙ from_floor window issued marks i)
      | inr past ↦
          bits_end (issued - floor) marks ends i (omega arith) small
          ∙ sym (has_counted_by window issued marks (floor + i)
          ∙ false_and _ _ (le-ltb (floor + i) issued past))
    ]))

-- No more writes count than were issued.
pub few_counted : (window issued : ℕ) (marks : List ℕ)
    → length (counted_by window issued marks) ≤ issued
few_counted window issued marks =
    let both = length-filter_both (is_counted_by window issued marks)
    (λ k. not (is_counted_by window issued marks k)) (λ k. refl) (numbers_below issued) in
    omega (arith, both, length_numbers_below issued)

-- ---- marks made of the writes that a test counts

kept_below : (p : ℕ → Bool) (n k : ℕ) → has (filter p (numbers_below n)) k ≡ (nat_lt k n && p k)
kept_below p n k = has_filter p (numbers_below n) k ∙ ap (λ b. b && p k) (has_numbers_below n k)

-- The marks of the writes that pass a test count these, where all below the floor pass.
pub counted_again : (window issued : ℕ) (p : ℕ → Bool) → window ≤ MAX_WINDOW →
    ((k : ℕ) → k + window < issued → p k ≡ true) →
    counted_by window issued (marks_of (has (filter p (numbers_below issued)))
    (floor_of window issued)) ≡ filter p (numbers_below issued)
counted_again window issued p narrow old =
    let floor = floor_of window issued in
    let kept = filter p (numbers_below issued) in
    let marks = marks_of (has kept) floor in
    filter_agree_below (is_counted_by window issued marks) p issued
    (λ k below. elim (cases_lt k floor) [
      | inl under ↦ ap (λ b. b || is_marked marks (k - floor)) (lt-ltb k floor under)
          ∙ sym (old k (omega arith))
      | inr from ↦
          or_false _ _ (le-ltb k floor from)
          ∙ marked_passes (has kept) floor (k - floor) (omega arith)
          ∙ ap (has kept) (omega arith)
          ∙ kept_below p issued k
          ∙ true_and _ _ (lt-ltb k issued below)
    ])

-- The marks of the writes that pass a test have no bit for a write that was not issued.
pub ends_again : (window issued : ℕ) (p : ℕ → Bool) →
    ends_by (issued - floor_of window issued)
    (marks_of (has (filter p (numbers_below issued))) (floor_of window issued)) ≡ true
ends_again window issued p =
    let floor = floor_of window issued in
    let kept = filter p (numbers_below issued) in
    ends_where (issued - floor) (marks_of (has kept) floor) (λ i low small.
    marked_passes (has kept) floor i small
    ∙ kept_below p issued (floor + i)
    ∙ false_and _ _ (le-ltb (floor + i) issued (omega arith)))

-- ---- the marks of a list of completions

old_counts : (window issued : ℕ) (xs : List ℕ) (k : ℕ) → k + window < issued
    → is_counted window issued xs k ≡ true
old_counts window issued xs k lt =
    or_right (has xs k) (nat_lt (k + window) issued) (lt-ltb (k + window) issued lt)

both_ways : (a b : Bool) → (a && b) ≡ (b && a)
both_ways true true = refl
both_ways true false = refl
both_ways false true = refl
both_ways false false = refl

no_other : (a b : Bool) → b ≡ false → (a || b) ≡ a
no_other true b e = refl
no_other false b e = e

-- From the floor on a list counts what stands in it and was issued.
pub listed_from_floor : (window issued : ℕ) (xs : List ℕ) (i : ℕ) →
    has (counted window issued xs) (floor_of window issued + i)
    ≡ (has xs (floor_of window issued + i) && nat_lt (floor_of window issued + i) issued)
listed_from_floor window issued xs i =
    let k = floor_of window issued + i in
    kept_below (is_counted window issued xs) issued k
    ∙ ap (λ b. nat_lt k issued && b)
    (no_other (has xs k) (nat_lt (k + window) issued)
    (le-ltb (k + window) issued (omega arith)))
    ∙ both_ways (nat_lt k issued) (has xs k)

-- The marks of what a list counts count the same.
pub counted_as_listed : (window issued : ℕ) (xs : List ℕ) → window ≤ MAX_WINDOW →
    counted_by window issued (marks_of (has (counted window issued xs)) (floor_of window issued))
    ≡ counted window issued xs
counted_as_listed window issued xs narrow =
    counted_again window issued (is_counted window issued xs) narrow (old_counts window issued xs)

-- Each issued write counts or doesn't.
pub counted_and_uncounted : (window issued : ℕ) (xs : List ℕ) →
    length (counted window issued xs) + length (uncounted window issued xs) ≡ issued
counted_and_uncounted window issued xs =
    let both = length-filter_both (is_counted window issued xs)
    (λ k. not (is_counted window issued xs k)) (λ k. refl) (numbers_below issued) in
    omega (arith, both, length_numbers_below issued)

-- The marks of what a list counts are possible where the list is.
pub possible_as_listed : (depth window issued : ℕ) (xs : List ℕ) → window ≤ MAX_WINDOW →
    is_possible depth window issued xs ≡ true →
    is_possible_by depth window issued
    (marks_of (has (counted window issued xs)) (floor_of window issued)) ≡ true
possible_as_listed depth window issued xs narrow possible =
    let halves = and_parts (is_distinct xs && list_all (λ k. nat_lt k issued) xs) _ possible in
    let few = leb-true (length (uncounted window issued xs)) depth
    (and_parts (leb (length (uncounted window issued xs)) depth) _ halves.1).0 in
    let counts = ap length (counted_as_listed window issued xs narrow) in
    and_from _ _ (ends_again window issued (is_counted window issued xs))
    (le-leb _ depth (omega (arith, few, counts, counted_and_uncounted window issued xs)))

-- ---- how many writes marks count

abbrev passing : (ℕ → Bool) → ℕ → ℕ
passing p n = length (filter p (numbers_below n))

length_last : (p : ℕ → Bool) (n : ℕ) (b : Bool) → p n ≡ b → length (filter p (n ∷ [])) ≡ cond b 1 0
length_last p n true e = rw e refl
length_last p n false e = rw e refl

passing_next : (p : ℕ → Bool) (n : ℕ) → passing p (suc n) ≡ passing p n + cond (p n) 1 0
passing_next p n = ap length (filter-append p (numbers_below n) (n ∷ []))
    ∙ length-append (filter p (numbers_below n)) (filter p (n ∷ []))
    ∙ ap (λ m. passing p n + m) (length_last p n (p n) refl)

all_pass : (p : ℕ → Bool) (n : ℕ) → ((k : ℕ) → k < n → p k ≡ true) → passing p n ≡ n
all_pass p zero each = refl
all_pass p (suc n) each = passing_next p n
    ∙ ap (λ b. passing p n + cond b 1 0) (each n (omega arith))
    ∙ omega (arith, all_pass p n (λ k lt. each k (omega arith)))

-- As many more pass as pass in the range behind.
passing_more : (p : ℕ → Bool) (n l : ℕ)
    → passing p (n + l) ≡ passing p n + count_by p (range_with_len n l)
passing_more p n zero = let here : n + 0 ≡ n = omega arith in ap (passing p) here ∙ omega arith
passing_more p n (suc l) =
    let front : n + suc l ≡ n + 1 + l = omega arith in
    let next : n + 1 ≡ suc n = omega arith in
    ap (passing p) front
    ∙ passing_more p (n + 1) l
    ∙ ap (λ m. m + count_by p (range_with_len (n + 1) l)) (ap (passing p) next ∙ passing_next p n)
    ∙ omega (arith, sum_by-cons (λ k. cond (p k) 1 0) n (range_with_len (n + 1) l))

none_more : (p : ℕ → Bool) (n l : ℕ) → ((k : ℕ) → n ≤ k → p k ≡ false)
    → passing p (n + l) ≡ passing p n
none_more p n zero each = let here : n + 0 ≡ n = omega arith in ap (passing p) here
none_more p n (suc l) each =
    let front : n + suc l ≡ suc (n + l) = omega arith in
    ap (passing p) front ∙ passing_next p (n + l)
    ∙ ap (λ b. passing p (n + l) + cond b 1 0) (each (n + l) (omega arith))
    ∙ omega (arith, none_more p n l each)

ones_of_word : (p : ℕ → Bool) (first : ℕ)
    → count_ones (word_of p first) ≡ count_by p (range_with_len first 64)
unfolding word_of
ones_of_word p first = ones_of_range p first 64
  where
    ones_of_range : (p : ℕ → Bool) (first n : ℕ)
        → count_ones (mask_l (map p (range_with_len first n))) ≡ count_by p (range_with_len first n)
    ones_of_range p first n = ones-mask_l p (range_with_len first n)

-- Four words have as many ones as numbers from their first on pass.
ones_of_marks : (p : ℕ → Bool) (floor : ℕ)
    → passing p (floor + MAX_WINDOW) ≡ passing p floor + marked_count (marks_of p floor)
ones_of_marks p floor =
    let a = passing_more p floor 64 in
    let b = passing_more p (floor + 64) 64 in
    let c = passing_more p (floor + 128) 64 in
    let d = passing_more p (floor + 192) 64 in
    let eb : floor + 64 + 64 ≡ floor + 128 = omega arith in
    let ec : floor + 128 + 64 ≡ floor + 192 = omega arith in
    let ed : floor + 192 + 64 ≡ floor + MAX_WINDOW = omega arith in
    omega (
      arith,
      a,
      b,
      c,
      d,
      ap (passing p) eb,
      ap (passing p) ec,
      ap (passing p) ed,
      ones_of_word p floor,
      ones_of_word p (floor + 64),
      ones_of_word p
          (floor + 128),
      ones_of_word p (floor + 192),
    )

-- Marks count the numbers below the floor, and one for each bit.
pub length_counted_by : (window issued : ℕ) (marks : List ℕ) → window ≤ MAX_WINDOW →
    length marks ≡ 4 →
    AllByRecursion (λ word. word < 2 ^ 64) marks →
    ends_by (issued - floor_of window issued) marks ≡ true →
    length (counted_by window issued marks) ≡ floor_of window issued + marked_count marks
length_counted_by window issued marks narrow four words ends =
    let floor = floor_of window issued in
    let kept = counted_by window issued marks in
    let q = has kept in
    let same = marks_again window issued marks four words ends in
    let all : passing q floor ≡ floor = all_pass q floor (λ k lt.
    has_counted_by window issued marks k
    ∙ true_and _ _ (lt-ltb k issued (omega arith))
    ∙ ap (λ b. b || is_marked marks (k - floor)) (lt-ltb k floor lt)) in
    let none = none_more q issued (floor + MAX_WINDOW - issued)
    (λ k past. has_counted_by window issued marks k ∙ false_and _ _ (le-ltb k issued past)) in
    let reach : issued + (floor + MAX_WINDOW - issued) ≡ floor + MAX_WINDOW = omega arith in
    let whole : passing q issued ≡ length kept =
    ap length (filter_agree_below q (is_counted_by window issued marks) issued
    (λ k lt. has_counted_by window issued marks k ∙ true_and _ _ (lt-ltb k issued lt))) in
    omega (
      arith,
      ones_of_marks q floor,
      ap marked_count same,
      all,
      none,
      ap (passing q) reach,
      whole,
    )
