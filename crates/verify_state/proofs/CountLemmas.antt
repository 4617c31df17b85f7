-- How many writes a list counts, and which.
use Rattle.std.proofs.Common.{◌≡◌, ℕ, ◌+◌, ◌-◌, ◌*◌, ◌<◌, ◌≤◌, min, zero, suc, Bool, true, false, cond, ◌&&◌, ◌||◌}
use Rattle.std.proofs.Common.{not, eqb, ltb, leb, List, [], ◌∷◌, length, filter, sym, refl, ap, ◌∙◌, inl, inr, arith}
use Rattle.std.specs.List.{list_all}
use Rattle.std.proofs.lemmas.Bool.{cases_Bool, and_parts, ltb-true, le-leb, leb-true, eqb-true, eq-eqb, ne_eqb, cases_eq}
use Rattle.std.proofs.lemmas.Bool.Decides.{nat_tests}
use Rattle.std.proofs.lemmas.List.{length-append}
use Rattle.std.proofs.lemmas.List.Elements.{filter-append, filter_agree}
use Rattle.fc_base.specs.declared.record.JobParts.{JobParts}
use Rattle.fc_base.specs.Counted.{has, numbers_below, is_counted, counted, uncounted, is_distinct, is_possible}
use Rattle.verify_state.specs.State.{has_come}

-- one where the test holds
abbrev one_if : Bool → ℕ
one_if true = 1
one_if false = 0

-- ---- filters of the numbers below a bound

abbrev pub passing : (ℕ → Bool) → ℕ → ℕ
passing p n = length (filter p (numbers_below n))

length_last : (p : ℕ → Bool) (n : ℕ) (b : Bool) → p n ≡ b → length (filter p (n ∷ [])) ≡ one_if b
length_last p n true e = rw e refl
length_last p n false e = rw e refl

passing_next : (p : ℕ → Bool) (n : ℕ) → passing p (suc n) ≡ passing p n + one_if (p n)
passing_next p n = ap length (filter-append p (numbers_below n) (n ∷ [])) ∙ length-append (filter p (numbers_below n)) (filter p (n ∷ []))
    ∙ ap (λ m. passing p n + m) (length_last p n (p n) refl)

passing_agree : (p q : ℕ → Bool) (n : ℕ) → ((k : ℕ) → k < n → p k ≡ q k) → passing p n ≡ passing q n
passing_agree p q zero agree = refl
passing_agree p q (suc n) agree =
    omega (arith, passing_next p n, passing_next q n, ap one_if (agree n (omega arith)), passing_agree p q n (λ k lt. agree k (omega arith)))

or_false : (b c : Bool) → b ≡ false → (b || c) ≡ c
or_false b c e = rw e refl

-- one number more passes
passing_with : (p : ℕ → Bool) (x n : ℕ) → x < n → p x ≡ false → passing (λ k. eqb x k || p k) n ≡ passing p n + 1
passing_with p x zero lt e = absurd (omega arith)
passing_with p x (suc n) lt e =
    let q = λ (k : ℕ). eqb x k || p k in
    elim (cases_eq x n) [
      | inl here ↦
          let now : q n ≡ true = ap (λ b. b || p n) (eq-eqb x n here) in
          let before : p n ≡ false = ap p (sym here) ∙ e in
          let same = passing_agree q p n (λ k below. or_false (eqb x k) (p k) (ne_eqb x k (λ h. omega arith))) in
          omega (arith, passing_next q n, passing_next p n, ap one_if now, ap one_if before, same)
      | inr other ↦
          let below = passing_with p x n (omega arith) e in
          let same : q n ≡ p n = or_false (eqb x n) (p n) (ne_eqb x n other) in
          omega (arith, passing_next q n, passing_next p n, ap one_if same, below)
    ]

-- the numbers that lie so far below a bound
passing_old : (window issued n : ℕ) → n ≤ issued → passing (λ k. ltb (k + window) issued) n ≡ cond (ltb n (issued - window)) n (issued - window)
passing_old window issued zero le = grind (arith, nat_tests)
passing_old window issued (suc n) le =
    elim (cases_Bool (ltb (n + window) issued)) [
      | inl t ↦ rw (passing_next (λ k. ltb (k + window) issued) n, passing_old window issued n (omega arith), t) (grind (arith, nat_tests))
      | inr f ↦ rw (passing_next (λ k. ltb (k + window) issued) n, passing_old window issued n (omega arith), f) (grind (arith, nat_tests))
    ]

-- ---- how many a list counts

or_same : (a b c : Bool) → (a || b || c) ≡ (a || (b || c))
or_same true b c = refl
or_same false b c = refl

or_true : (b c : Bool) → c ≡ true → (b || c) ≡ c
or_true true c e = sym e
or_true false c e = refl

count_new : (window issued x : ℕ) (xs : List ℕ) (b : Bool) → ltb (x + window) issued ≡ b → x < issued → has xs x ≡ false →
    length (counted window issued (x ∷ xs)) ≡ length (counted window issued xs) + one_if (not b)
count_new window issued x xs true old lt fresh =
    let p = is_counted window issued xs in
    ap length (filter_agree (is_counted window issued (x ∷ xs)) p (λ k. elim (cases_eq x k) [
      | inl here ↦ let o : ltb (k + window) issued ≡ true =
          ap (λ j. ltb (j + window) issued) (sym here) ∙ old in or_true (eqb x k || has xs k) _ o ∙ sym (or_true (has xs k) _ o)
      | inr other ↦ rw (ne_eqb x k other) refl
    ]) (numbers_below issued)) ∙ omega arith
count_new window issued x xs false old lt fresh =
    let p = is_counted window issued xs in
    let not_yet : p x ≡ false = rw (fresh, old) refl in
    ap length (filter_agree (is_counted window issued (x ∷ xs)) (λ k. eqb x k || p k) (λ k. or_same (eqb x k) (has xs k) (ltb (k + window) issued))
    (numbers_below issued))
    ∙ passing_with p x issued lt not_yet

not_before : (b : Bool) → not b ≡ true → b ≡ false
not_before true e = sym e
not_before false e = refl

from_floor : (first x : ℕ) (xs : List ℕ) (b : Bool) → leb first x ≡ b → length (filter (leb first) (x ∷ xs)) ≡ length (filter (leb first) xs) + one_if b
from_floor first x xs true e = rw e (omega arith)
from_floor first x xs false e = rw e (omega arith)

pub length_counted : (window issued : ℕ) (xs : List ℕ) → is_distinct xs ≡ true → list_all (λ k. ltb k issued) xs ≡ true →
    length (counted window issued xs) ≡ (issued - window) + length (filter (leb (issued - window)) xs)
length_counted window issued [] d b =
    passing_old window issued issued (omega arith) ∙ grind (arith, nat_tests)
length_counted window issued (x ∷ xs) d b =
    let parts = and_parts (not (has xs x)) (is_distinct xs) d in
    let below = and_parts (ltb x issued) (list_all (λ k. ltb k issued) xs) b in
    let before = length_counted window issued xs parts.1 below.1 in
    let new = count_new window issued x xs (ltb (x + window) issued) refl (ltb-true x issued below.0) (not_before (has xs x) parts.0) in
    let floor : leb (issued - window) x ≡ not (ltb (x + window) issued) = grind (arith, nat_tests) in
    let front = from_floor (issued - window) x xs (not (ltb (x + window) issued)) floor in
    omega (arith, before, new, front)

-- ---- whether a job can have come to a list

pub comes : (job : JobParts) (issued : ℕ) (xs : List ℕ) → issued ≤ job.total → is_distinct xs ≡ true → list_all (λ k. ltb k issued) xs ≡ true →
    (few whole : Bool) → leb (length (uncounted job.window issued xs)) job.depth ≡ few →
    eqb (length xs) (min (2 * job.window) (length (counted job.window issued xs))) ≡ whole → has_come job issued xs ≡ (few && whole)
unfolding has_come
comes job issued xs le d b few whole f w = rw (le-leb issued job.total le, d, b, f, w) refl

-- what a list comes to
pub record Come (job : JobParts) (issued : ℕ) (xs : List ℕ) : Type 0 where
  pub issued_few : issued ≤ job.total
  pub distinct : is_distinct xs ≡ true
  pub below : list_all (λ k. ltb k issued) xs ≡ true
  pub short : length xs ≤ 2 * job.window

pub come : (job : JobParts) (issued : ℕ) (xs : List ℕ) → has_come job issued xs ≡ true → Come job issued xs
unfolding has_come
come job issued xs e =
    let whole = and_parts (leb issued job.total) (is_possible job.depth job.window issued xs) e in
    let halves = and_parts (is_distinct xs && list_all (λ k. ltb k issued) xs) _ whole.1 in
    let front = and_parts (is_distinct xs) (list_all (λ k. ltb k issued) xs) halves.0 in
    let back = and_parts (leb (length (uncounted job.window issued xs)) job.depth)
    (eqb (length xs) (min (2 * job.window) (length (counted job.window issued xs)))) halves.1 in
    record {
      issued_few = leb-true issued job.total whole.0;
      distinct = front.0;
      below = front.1;
      short = omega (arith, eqb-true (length xs) (min (2 * job.window) (length (counted job.window issued xs))) back.1);
    }
