-- Which blocks a check's report tells of.
use Rattle.std.proofs.Common.{◌≡◌, ◌<◌, ◌≤◌, ◌+◌, ◌==◌, ◌||◌, ℕ, zero, suc, Bool, true, false, List, [], ◌∷◌, length, take, filter, refl, sym, ap, ◌∙◌, inl, inr, arith}
use Rattle.std.specs.List.{range_with_len}
use Rattle.std.proofs.lemmas.Bool.{cases_Bool, cases_eq, false≢true, eq-eqb, eqb-true, ne_eqb, or_left, or_right}
use Rattle.fc_base.specs.Counted.{has}
use Rattle.fc_base.specs.declared.limits.TheConstants.{MAX_LISTED}
use Rattle.recheck.specs.Expected.{Expected}
use Rattle.recheck.specs.Faults.{is_fault}
use Rattle.recheck.specs.Report.{looked_at, report, up_to_first}

-- ---- the first that pass, and all that do

one_of : (a b : Bool) → a ≡ false → (a || b) ≡ true → b ≡ true
one_of false b first is = is
one_of true b first is = absurd (false≢true (sym first))

none_pass : (t : ℕ → Bool) (xs : List ℕ) (x : ℕ) → length (filter t xs) ≡ 0 → has xs x ≡ true → t x ≡ false
none_pass t [] x none is = absurd (false≢true is)
none_pass t (y ∷ ys) x none is = elim (cases_Bool (t y)) [
  | inl passes ↦ let some : suc (length (filter t ys)) ≡ 0 = rw passes at none in absurd (omega (arith, some))
  | inr fails ↦
      let rest : length (filter t ys) ≡ 0 = rw fails at none in
      elim (cases_eq y x) [
        | inl same ↦ ap t (sym same) ∙ fails
        | inr other ↦ none_pass t ys x rest (one_of (y == x) (has ys x) (ne_eqb y x other) is)
      ]
]

pass_none : (t : ℕ → Bool) (xs : List ℕ) → ((x : ℕ) → has xs x ≡ true → t x ≡ false) → filter t xs ≡ []
pass_none t [] none = refl
pass_none t (y ∷ ys) none =
    let first : t y ≡ false = none y (or_left (y == y) (has ys y) (eq-eqb y y refl)) in
    rw first (pass_none t ys (λ x is. none x (or_right (y == x) (has ys x) is)))

-- Where none of the first passes, none does.
first_none : (t : ℕ → Bool) (xs : List ℕ) → length (filter t (up_to_first t xs)) ≡ 0 → length (filter t xs) ≡ 0
first_none t [] none = refl
first_none t (y ∷ ys) none = elim (cases_Bool (t y)) [
  | inl passes ↦ let some : 1 ≡ 0 = rw passes at (rw passes at none) in absurd (omega (arith, some))
  | inr fails ↦ rw fails (first_none t ys (rw fails at (rw fails at none)))
]

first_of_none : (t : ℕ → Bool) (xs : List ℕ) → filter t xs ≡ [] → filter t (up_to_first t xs) ≡ []
first_of_none t [] none = refl
first_of_none t (y ∷ ys) none = elim (cases_Bool (t y)) [
  | inl passes ↦ let some : y ∷ filter t ys ≡ [] = rw passes at none in absurd (omega (arith, ap length some))
  | inr fails ↦ rw fails (rw fails (first_of_none t ys (rw fails at none)))
]

-- What is listed passes, and is one of them.
in_first : (t : ℕ → Bool) (xs : List ℕ) (x : ℕ) → has (up_to_first t xs) x ≡ true → has xs x ≡ true
in_first t [] x is = is
in_first t (y ∷ ys) x is = elim (cases_Bool (y == x)) [
  | inl same ↦ or_left (y == x) (has ys x) same
  | inr other ↦ elim (cases_Bool (t y)) [
    | inl passes ↦ let none : (false || false) ≡ true = rw other at (rw passes at is) in absurd (false≢true none)
    | inr fails ↦ or_right (y == x) (has ys x) (in_first t ys x (one_of (y == x) (has (up_to_first t ys) x) other (rw fails at is)))
  ]
]

in_filter : (t : ℕ → Bool) (xs : List ℕ) (x : ℕ) → has (filter t xs) x ≡ true → (t x ≡ true) × (has xs x ≡ true)
in_filter t [] x is = absurd (false≢true is)
in_filter t (y ∷ ys) x is = elim (cases_Bool (t y)) [
  | inl passes ↦ elim (cases_Bool (y == x)) [
    | inl same ↦ (ap t (sym (eqb-true y x same)) ∙ passes, or_left (y == x) (has ys x) same)
    | inr other ↦
        let r = in_filter t ys x (one_of (y == x) (has (filter t ys) x) other (rw passes at is)) in
        (r.0, or_right (y == x) (has ys x) r.1)
  ]
  | inr fails ↦ let r = in_filter t ys x (rw fails at is) in (r.0, or_right (y == x) (has ys x) r.1)
]

in_take : (n : ℕ) (xs : List ℕ) (x : ℕ) → has (take n xs) x ≡ true → has xs x ≡ true
in_take zero xs x is = absurd (false≢true is)
in_take (suc n) [] x is = is
in_take (suc n) (y ∷ ys) x is = elim (cases_Bool (y == x)) [
  | inl same ↦ or_left (y == x) (has ys x) same
  | inr other ↦ or_right (y == x) (has ys x) (in_take n ys x (one_of (y == x) (has (take n ys) x) other is))
]

-- The numbers from a on.
in_range : (a n x : ℕ) → a ≤ x → x < a + n → has (range_with_len a n) x ≡ true
in_range a zero x from lt = absurd (omega (arith, from, lt))
in_range a (suc n) x from lt = elim (cases_eq a x) [
  | inl same ↦ or_left (a == x) (has (range_with_len (a + 1) n) x) (eq-eqb a x same)
  | inr other ↦ or_right (a == x) (has (range_with_len (a + 1) n) x) (in_range (a + 1) n x (omega (arith, from, other)) (omega (arith, lt)))
]

range_in : (a n x : ℕ) → has (range_with_len a n) x ≡ true → x < a + n
range_in a zero x is = absurd (false≢true is)
range_in a (suc n) x is = elim (cases_Bool (a == x)) [
  | inl same ↦ let e = eqb-true a x same in omega (arith, e)
  | inr other ↦ let lt = range_in (a + 1) n x (one_of (a == x) (has (range_with_len (a + 1) n) x) other is) in omega (arith, lt)
]

-- ---- a report

module _ (fatal : Bool) (e : Expected) (held : ℕ → List ℕ) (n : ℕ) where
  blocks_looked : (f : Bool) → length (filter (is_fault e held) (looked_at f e held (range_with_len 0 n))) ≡ 0
      → length (filter (is_fault e held) (range_with_len 0 n)) ≡ 0
  blocks_looked true none = first_none (is_fault e held) (range_with_len 0 n) none
  blocks_looked false none = none

  looked_none : (f : Bool) → filter (is_fault e held) (range_with_len 0 n) ≡ []
      → filter (is_fault e held) (looked_at f e held (range_with_len 0 n)) ≡ []
  looked_none true none = first_of_none (is_fault e held) (range_with_len 0 n) none
  looked_none false none = none

  in_looked : (f : Bool) (b : ℕ) → has (looked_at f e held (range_with_len 0 n)) b ≡ true → has (range_with_len 0 n) b ≡ true
  in_looked true b is = in_first (is_fault e held) (range_with_len 0 n) b is
  in_looked false b is = is

  -- No block is at fault where none is told.
  pub none_at_fault : (report fatal e held (range_with_len 0 n)).faults ≡ 0 → (b : ℕ) → b < n → is_fault e held b ≡ false
  none_at_fault none b lt =
      none_pass (is_fault e held) (range_with_len 0 n) b (blocks_looked fatal none) (in_range 0 n b (omega arith) (omega (arith, lt)))

  -- None is told where none is.
  pub none_told : ((b : ℕ) → b < n → is_fault e held b ≡ false) → (report fatal e held (range_with_len 0 n)).faults ≡ 0
  none_told none =
      ap length (looked_none fatal (pass_none (is_fault e held) (range_with_len 0 n) (λ x is. none x (omega (arith, range_in 0 n x is)))))

  -- What is listed is at fault.
  pub listed_is : (b : ℕ) → has (report fatal e held (range_with_len 0 n)).first b ≡ true → (b < n) × (is_fault e held b ≡ true)
  listed_is b is =
      let among = in_take MAX_LISTED (filter (is_fault e held) (looked_at fatal e held (range_with_len 0 n))) b is in
      let parts = in_filter (is_fault e held) (looked_at fatal e held (range_with_len 0 n)) b among in
      (omega (arith, range_in 0 n b (in_looked fatal b parts.1)), parts.0)
