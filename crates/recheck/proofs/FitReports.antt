-- The numbers of a report fit together.
use Rattle.std.proofs.Common.{◌≡◌, refl, ℕ, zero, suc, ◌+◌, ◌-◌, ◌<◌, ◌≤◌, arith, Bool, true, false, ◌&&◌, List, [], ◌∷◌, length, take, min}
use Rattle.std.specs.Prelude.{filter, not, nat_lt}
use Rattle.std.specs.List.{list_all, range_with_len}
use Rattle.std.proofs.lemmas.Bool.{lt-ltb, ltb-true, le-leb, eq-eqb}
use Rattle.fc_base.specs.declared.limits.TheConstants.{MAX_BLOCKS, MAX_LISTED}
use Rattle.fc_base.specs.Ascending.{ascends, is_block}
use Rattle.fc_base.specs.Report.{has_counts, has_list, has_end}
use Rattle.recheck.specs.Expected.{Expected}
use Rattle.recheck.specs.Faults.{is_checked, is_expected, is_fault}
use Rattle.recheck.specs.Report.{Tally, tally, up_to_first, looked_at, end_of, report_with, report}
use Rattle.recheck.specs.Fits.{ReportsFit}

-- Numbers from low on and below high, each above the one before.
abbrev Rising : ℕ → ℕ → List ℕ → Type 0
Rising low high [] = Unit {0}
Rising low high (x ∷ xs) = (low ≤ x) × (x < high) × Rising (x + 1) high xs

lower : (a b high : ℕ) (xs : List ℕ) → a ≤ b → Rising b high xs → Rising a high xs
lower a b high [] l r = tt
lower a b high (x ∷ xs) l r = (let p = r.0 in omega (arith, l), r.1, r.2)

filter_one : (p : ℕ → Bool) (low high x : ℕ) (xs : List ℕ) (b : Bool) → p x ≡ b → low ≤ x → x < high → Rising (x + 1) high (filter p xs)
    → Rising low high (filter p (x ∷ xs))
filter_one p low high x xs true e l h r = rw e (l, h, r)
filter_one p low high x xs false e l h r = rw e (lower low (x + 1) high (filter p xs) (omega (arith, l)) r)

rising_filter : (p : ℕ → Bool) (low high : ℕ) (xs : List ℕ) → Rising low high xs → Rising low high (filter p xs)
rising_filter p low high [] r = tt
rising_filter p low high (x ∷ xs) r = filter_one p low high x xs (p x) refl r.0 r.1 (rising_filter p (x + 1) high xs r.2)

rising_take : (n low high : ℕ) (xs : List ℕ) → Rising low high xs → Rising low high (take n xs)
rising_take zero low high xs r = tt
rising_take (suc n) low high [] r = tt
rising_take (suc n) low high (x ∷ xs) r = (r.0, r.1, rising_take n (x + 1) high xs r.2)

through_first : (p : ℕ → Bool) (low high x : ℕ) (xs : List ℕ) (b : Bool) → p x ≡ b → low ≤ x → x < high → Rising (x + 1) high (up_to_first p xs)
    → Rising low high (up_to_first p (x ∷ xs))
through_first p low high x xs true e l h r = rw e (l, h, tt)
through_first p low high x xs false e l h r = rw e (l, h, r)

rising_through : (p : ℕ → Bool) (low high : ℕ) (xs : List ℕ) → Rising low high xs → Rising low high (up_to_first p xs)
rising_through p low high [] r = tt
rising_through p low high (x ∷ xs) r = through_first p low high x xs (p x) refl r.0 r.1 (rising_through p (x + 1) high xs r.2)

rising_range : (a n high : ℕ) → a + n ≤ high → Rising a high (range_with_len a n)
rising_range a zero high l = tt
rising_range a (suc n) high l = (omega arith, omega (arith, l), rising_range (a + 1) n high (omega (arith, l)))

length_rising : (low high : ℕ) (xs : List ℕ) → Rising low high xs → length xs ≤ high - low
length_rising low high [] r = omega arith
length_rising low high (x ∷ xs) r = let a = r.0 in let b = r.1 in let c = length_rising (x + 1) high xs r.2 in omega (arith, c)

rising_ascends : (low high : ℕ) (xs : List ℕ) → Rising low high xs → ascends xs ≡ true
rising_ascends low high [] r = refl
rising_ascends low high (x ∷ []) r = refl
rising_ascends low high (x ∷ y ∷ ys) r = let above = (r.2).0 in rw (lt-ltb x y (omega arith)) (rising_ascends (x + 1) high (y ∷ ys) r.2)

rising_blocks : (low high : ℕ) (xs : List ℕ) → high ≤ MAX_BLOCKS → Rising low high xs → list_all is_block xs ≡ true
rising_blocks low high [] l r = refl
rising_blocks low high (x ∷ xs) l r = let below = r.1 in rw (lt-ltb x MAX_BLOCKS (omega (arith, l))) (rising_blocks (x + 1) high xs l r.2)

-- No more numbers pass two tests than one.
fewer_one : (p q : ℕ → Bool) (x : ℕ) (xs : List ℕ) (a b : Bool) → p x ≡ a → q x ≡ b → length (filter (λ y. p y && q y) xs) ≤ length (filter p xs)
    → length (filter (λ y. p y && q y) (x ∷ xs)) ≤ length (filter p (x ∷ xs))
fewer_one p q x xs true true e f rest = rw (e, f) (omega (arith, rest))
fewer_one p q x xs true false e f rest = rw (e, f) (omega (arith, rest))
fewer_one p q x xs false true e f rest = rw e rest
fewer_one p q x xs false false e f rest = rw e rest

fewer : (p q : ℕ → Bool) (xs : List ℕ) → length (filter (λ x. p x && q x) xs) ≤ length (filter p xs)
fewer p q [] = omega arith
fewer p q (x ∷ xs) = fewer_one p q x xs (p x) (q x) refl refl (fewer p q xs)

no_more_one : (p : ℕ → Bool) (x : ℕ) (xs : List ℕ) (a : Bool) → p x ≡ a → length (filter p xs) ≤ length xs → length (filter p (x ∷ xs)) ≤ length (x ∷ xs)
no_more_one p x xs true e rest = rw e (omega (arith, rest))
no_more_one p x xs false e rest = rw e (omega (arith, rest))

no_more : (p : ℕ → Bool) (xs : List ℕ) → length (filter p xs) ≤ length xs
no_more p [] = omega arith
no_more p (x ∷ xs) = no_more_one p x xs (p x) refl (no_more p xs)

length_take : (n : ℕ) (xs : List ℕ) → length (take n xs) ≡ min (length xs) n
length_take zero xs = omega arith
length_take (suc n) [] = omega arith
length_take (suc n) (x ∷ xs) = omega (arith, length_take n xs)

-- Up to the first that passes at most one does.
one_by : (p : ℕ → Bool) (x : ℕ) (xs : List ℕ) (b : Bool) → p x ≡ b → length (filter p (up_to_first p xs)) ≤ 1 → length (filter p (up_to_first p (x ∷ xs))) ≤ 1
one_by p x xs true e rest = rw (e, e) (omega arith)
one_by p x xs false e rest = rw (e, e) rest

through_one : (p : ℕ → Bool) (xs : List ℕ) → length (filter p (up_to_first p xs)) ≤ 1
through_one p [] = omega arith
through_one p (x ∷ xs) = one_by p x xs (p x) refl (through_one p xs)

rising_seen : (fatal : Bool) (e : Expected) (held : ℕ → List ℕ) (n high : ℕ) → n ≤ high → Rising 0 high (looked_at fatal e held (range_with_len 0 n))
rising_seen true e held n high l = rising_through (is_fault e held) 0 high (range_with_len 0 n) (rising_range 0 n high (omega (arith, l)))
rising_seen false e held n high l = rising_range 0 n high (omega (arith, l))

-- A check that ends at a fault has found one.
found_one : (n : ℕ) (t : Tally) → t.faults ≤ 1 → (b : Bool) → nat_lt 0 t.faults ≡ b → has_end (report_with t (end_of true t)) ≡ true
found_one n t most true h = let some = ltb-true 0 t.faults h in rw h (eq-eqb t.faults 1 (omega (arith, most, some)))
found_one n t most false h = rw h refl

ends_well : (fatal : Bool) (e : Expected) (held : ℕ → List ℕ) (n : ℕ) → has_end (report fatal e held (range_with_len 0 n)) ≡ true
ends_well false e held n = refl
ends_well true e held n =
    let t = tally e held (up_to_first (is_fault e held) (range_with_len 0 n)) in
    found_one n t (through_one (is_fault e held) (range_with_len 0 n)) (nat_lt 0 t.faults) refl

pub reports_fit : ReportsFit
reports_fit fatal e held n l =
    let seen = looked_at fatal e held (range_with_len 0 n) in
    let r = rising_seen fatal e held n MAX_BLOCKS l in
    let faulty = filter (is_fault e held) seen in
    let first = rising_take MAX_LISTED 0 MAX_BLOCKS faulty (rising_filter (is_fault e held) 0 MAX_BLOCKS seen r) in
    let some = fewer (is_checked e) (λ b. not (is_expected e b (held b))) seen in
    let all = no_more (is_checked e) seen in
    let most = length_rising 0 MAX_BLOCKS seen r in
    let counts : has_counts (report fatal e held (range_with_len 0 n)) ≡ true =
    rw (le-leb (length faulty) (length (filter (is_checked e) seen)) some, le-leb (length (filter (is_checked e) seen)) MAX_BLOCKS (omega (arith, all, most)))
    refl in
    let list : has_list (report fatal e held (range_with_len 0 n)) ≡ true =
    rw (
      eq-eqb (length (take MAX_LISTED faulty)) (min (length faulty) MAX_LISTED) (length_take MAX_LISTED faulty),
      rising_blocks 0 MAX_BLOCKS (take MAX_LISTED faulty) (omega arith) first,
      rising_ascends 0 MAX_BLOCKS (take MAX_LISTED faulty) first,
    ) refl in
    rw (counts, list, ends_well fatal e held n) refl
