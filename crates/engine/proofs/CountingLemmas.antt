-- The counting law.
use Rattle.std.proofs.Common.{◌≡◌, ℕ, ◌+◌, ◌-◌, ◌*◌, ◌<◌, ◌≤◌, suc, Bool, true, false, not, eqb, ltb, List, []}
use Rattle.std.proofs.Common.{◌∷◌, ◌++◌, ◌&&◌, length, filter, drop, sym, refl, ap, ◌∙◌, subst, inl, inr, arith}
use Rattle.std.specs.Cmp.{nat_eq_equiv}
use Rattle.std.specs.Prelude.{nat_eq, min}
use Rattle.std.specs.List.{list_all, AllByRecursion, IsDistinct}
use Rattle.std.proofs.lemmas.Bool.{cases_lt, false≢true, and_parts, or_left, or_right, or_cases, eqb-true, eq-eqb, and_from, lt-ltb, le-leb, ltb-true}
use Rattle.std.proofs.lemmas.Bool.Decides.{same_from_decides}
use Rattle.std.proofs.lemmas.List.{length-append, length-drop, drop_at, drop-append-le, append_assoc, length_push}
use Rattle.std.proofs.lemmas.List.Elements.{filter_agree}
use Rattle.std.proofs.lemmas.List.Filters.{length-filter_both}
use Rattle.std.proofs.lemmas.Map.Keys.{IsDistinct-push}
use Rattle.fc_base.specs.Counted.{has, numbers_below, is_counted, is_distinct}
use Rattle.fc_base.specs.Marks.{floor_of, marks_of, ends_by, counted_by}
use Rattle.engine.specs.History.{Event, issue, done, fail, issues, completions, issued, is_done, recent, done_marks}
use Rattle.engine.specs.WindowRules.{IsLegal}
use Rattle.engine.specs.Counting.{CountsTheCompleted, ComesToPossible, MarksCountTheCompleted, ComesToPossibleMarks}
use Rattle.fc_base.specs.NumberLaws.{has_push, has_filter, has_numbers_below, length_numbers_below}
use Rattle.fc_base.specs.MarkLaws.{marks_agree}
use Rattle.fc_base.specs.CountLaws.{counted_again, ends_again}
use Rattle.engine.proofs.NumberLemmas.{eqb_comm, has_append_right, has_head, has_is_member, has_last_of, IsDistinct-drop, length-le_from_range}
use Rattle.engine.proofs.HistoryLemmas.{in_flight_are_numbers, open_is, done_issued, old_is_done, few_in_flight, length-in_flight-completions}

-- no write completes twice
pub distinct_completions : (depth window : ℕ) (h : List Event) → IsLegal depth window h → IsDistinct nat_eq (completions h)
unfolding IsDistinct
distinct_completions depth window [] l = tt
distinct_completions depth window (issue m ∷ h) l = distinct_completions depth window h l.0
distinct_completions depth window (done m ∷ h) l =
    IsDistinct-push nat_eq_equiv (completions h) m (distinct_completions depth window h l.0)
    (has_is_member (completions h) m ∙ (open_is depth window h l.0 m l.1).1)
distinct_completions depth window (fail m ∷ h) l = distinct_completions depth window h l.0

-- the completions up to that of k, and those behind it, which lie less than a window below k
record Completed (window k : ℕ) (h : List Event) : Type 0 where
  front : List ℕ
  back : List ℕ
  parts : completions h ≡ front ++ k ∷ back
  near : (j : ℕ) → has back j ≡ true → (k < j + window) × (j < issued h)

completed_later : (depth window k m : ℕ) (h : List Event) → IsLegal depth window (done m ∷ h) → is_done h k ≡ true → Completed window k h
    → Completed window k (done m ∷ h)
completed_later depth window k m h l before c =
    let was = open_is depth window h l.0 m l.1 in
    let near : k < m + window = elim (cases_lt k (m + window)) [
      | inl lt ↦ lt
      | inr far ↦ absurd (false≢true (sym was.1 ∙ old_is_done depth window h l.0 m (omega (arith, done_issued depth window h l.0 k before))))
    ] in
    record {
      front = c.front;
      back = c.back ++ m ∷ [];
      parts = ap (λ xs. xs ++ m ∷ []) c.parts ∙ append_assoc c.front (k ∷ c.back) (m ∷ []);
      near = λ j b. elim (or_cases (has c.back j) (eqb m j) (sym (has_push c.back m j) ∙ b)) [
        | inl old ↦ c.near j old
        | inr now ↦ let same = eqb-true m j now in (omega arith, omega arith)
      ];
    }

completed : (depth window k : ℕ) (h : List Event) → IsLegal depth window h → is_done h k ≡ true → Completed window k h
completed depth window k [] l e = absurd (false≢true e)
completed depth window k (issue m ∷ h) l e =
    let c = completed depth window k h l.0 e in
    record { front = c.front; back = c.back; parts = c.parts; near = λ j b. ((c.near j b).0, omega (arith, (c.near j b).1, length_push (issues h) m)) }
completed depth window k (fail m ∷ h) l e =
    let c = completed depth window k h l.0 e in
    record { front = c.front; back = c.back; parts = c.parts; near = c.near }
completed depth window k (done m ∷ h) l e = elim (or_cases (is_done h k) (eqb m k) (sym (has_push (completions h) m k) ∙ e)) [
  | inl before ↦ completed_later depth window k m h l before (completed depth window k h l.0 before)
  | inr now ↦ record { front = completions h; back = []; parts = ap (λ j. completions h ++ j ∷ []) (eqb-true m k now); near = λ j b. absurd (false≢true b) }
]

-- so a completed write that isn't a whole window old is among the last two windows of completions
is_recent : (window k : ℕ) (h : List Event) → IsDistinct nat_eq (completions h) → k < issued h → issued h ≤ k + window → Completed window k h
    → has (recent window h) k ≡ true
is_recent window k h d below near c =
    let rest = k ∷ c.back in
    let low = suc k - window in
    let behind = ap (drop (length c.front)) c.parts ∙ drop_at c.front rest (length c.front) refl in
    let distinct = subst (IsDistinct nat_eq) behind (IsDistinct-drop (length c.front) (completions h) d) in
    let few = length-le_from_range low (issued h - low) rest distinct (λ j r. elim (or_cases (eqb k j) (has c.back j) r) [
      | inl now ↦ let same = eqb-true k j now in (omega arith, omega arith)
      | inr b ↦ let n = c.near j b in (omega arith, omega arith)
    ]) in
    let long = ap length c.parts ∙ length-append c.front rest in
    let n = length (completions h) - 2 * window in
    let cut = ap (drop n) c.parts ∙ drop-append-le n c.front rest (omega arith) in
    ap (λ xs. has xs k) cut ∙ has_append_right (drop n c.front) rest k (has_head k c.back)

pub counts_the_completed : CountsTheCompleted
counts_the_completed depth window h l k =
    same_from_decides (is_counted window (issued h) (recent window h) k) (is_done h k) (counted_done, done_counted) (λ e. e, λ e. e)
  where
    counted_done : is_counted window (issued h) (recent window h) k ≡ true → is_done h k ≡ true
    counted_done e = elim (or_cases (has (recent window h) k) (ltb (k + window) (issued h)) e) [
      | inl among ↦ has_last_of (2 * window) (completions h) k among
      | inr old ↦ old_is_done depth window h l k (ltb-true (k + window) (issued h) old)
    ]

    done_counted : is_done h k ≡ true → is_counted window (issued h) (recent window h) k ≡ true
    done_counted e = elim (cases_lt (k + window) (issued h)) [
      | inl old ↦ or_right (has (recent window h) k) (ltb (k + window) (issued h)) (lt-ltb (k + window) (issued h) old)
      | inr near ↦
          or_left (has (recent window h) k) (ltb (k + window) (issued h))
          (is_recent window k h (distinct_completions depth window h l) (done_issued depth window h l k e) near (completed depth window k h l e))
    ]

-- no number twice, as a test
is_distinct_from : (xs : List ℕ) → IsDistinct nat_eq xs → is_distinct xs ≡ true
unfolding IsDistinct
is_distinct_from [] d = refl
is_distinct_from (x ∷ xs) d = and_from (not (has xs x)) (is_distinct xs) (ap not (apart xs d.0)) (is_distinct_from xs d.1)
  where
    apart : (ys : List ℕ) → AllByRecursion (λ y. nat_eq x y ≡ false) ys → has ys x ≡ false
    apart [] a = refl
    apart (y ∷ ys) a = rw (eqb_comm y x, a.0, apart ys a.1) refl

-- what holds of each member
list_all_from : (p : ℕ → Bool) (xs : List ℕ) → ((k : ℕ) → has xs k ≡ true → p k ≡ true) → list_all p xs ≡ true
list_all_from p [] each = refl
list_all_from p (x ∷ xs) each =
    and_from (p x) (list_all p xs) (each x (has_head x xs)) (list_all_from p xs (λ k e. each k (or_right (eqb x k) (has xs k) e)))

pub comes_to_possible : ComesToPossible
comes_to_possible depth window h l =
    let counted = is_counted window (issued h) (recent window h) in
    let counts = counts_the_completed depth window h l in
    let numbers = numbers_below (issued h) in
    let flying = filter_agree (λ k. not (counted k)) (λ k. not (is_done h k)) (λ k. ap not (counts k)) numbers ∙ sym (in_flight_are_numbers depth window h l) in
    let done_ones = filter_agree counted (is_done h) counts numbers in
    let both = length-filter_both (is_done h) (λ k. not (is_done h k)) (λ k. refl) numbers in
    let list = recent window h in
    let distinct = is_distinct_from list (IsDistinct-drop (length (completions h) - 2 * window) (completions h) (distinct_completions depth window h l)) in
    let all_issued = list_all_from (λ k. ltb k (issued h)) list
    (λ k e. lt-ltb k (issued h) (done_issued depth window h l k (has_last_of (2 * window) (completions h) k e))) in
    let few = le-leb (length (filter (λ k. not (counted k)) numbers)) depth (omega (arith, ap length flying, few_in_flight depth window h l)) in
    let whole = eq-eqb (length list) (min (2 * window) (length (filter counted numbers)))
    (omega (
      arith,
      ap length done_ones,
      both,
      ap length (in_flight_are_numbers depth window h l),
      length-in_flight-completions depth window h l,
      length_numbers_below (issued h),
      length-drop (length (completions h) - 2 * window) (completions h),
    )) in
    and_from _ _ (and_from _ _ distinct all_issued) (and_from _ _ few whole)

-- ---- marks

abbrev done_ones : List Event → List ℕ
done_ones h = filter (is_done h) (numbers_below (issued h))

-- all that has completed was issued
has_done_ones : (depth window : ℕ) (h : List Event) → IsLegal depth window h → (k : ℕ) → has (done_ones h) k ≡ is_done h k
has_done_ones depth window h l k =
    has_filter (is_done h) (numbers_below (issued h)) k
    ∙ same_from_decides (has (numbers_below (issued h)) k && is_done h k) (is_done h k) (
      λ e. (and_parts (has (numbers_below (issued h)) k) (is_done h k) e).1,
      λ d. and_from (has (numbers_below (issued h)) k) (is_done h k)
          (has_numbers_below (issued h) k ∙ lt-ltb k (issued h) (done_issued depth window h l k d)) d,
    ) (λ e. e, λ e. e)

marks_of_done_ones : (depth window : ℕ) (h : List Event) → IsLegal depth window h
    → marks_of (has (done_ones h)) (floor_of window (issued h)) ≡ done_marks window h
marks_of_done_ones depth window h l =
    marks_agree (has (done_ones h)) (is_done h) (floor_of window (issued h)) (λ i small. has_done_ones depth window h l (floor_of window (issued h) + i))

pub marks_count_the_completed : MarksCountTheCompleted
marks_count_the_completed depth window h narrow l =
    ap (counted_by window (issued h)) (sym (marks_of_done_ones depth window h l))
    ∙ counted_again window (issued h) (is_done h) narrow (old_is_done depth window h l)

pub comes_to_possible_marks : ComesToPossibleMarks
comes_to_possible_marks depth window h narrow l =
    let both = length-filter_both (is_done h) (λ k. not (is_done h k)) (λ k. refl) (numbers_below (issued h)) in
    let ends = ap (ends_by (issued h - floor_of window (issued h))) (sym (marks_of_done_ones depth window h l)) ∙ ends_again window (issued h) (is_done h) in
    and_from _ _ ends
    (le-leb _ depth (omega (
      arith,
      ap length (marks_count_the_completed depth window h narrow l),
      both,
      ap length (in_flight_are_numbers depth window h l),
      few_in_flight depth window h l,
      length_numbers_below (issued h),
    )))
