-- Legal histories.
use Rattle.std.proofs.Common.{◌≡◌, ℕ, ◌+◌, ◌<◌, ◌≤◌, suc, Bool, true, false, ◌&&◌, not, eqb, ltb, List}
use Rattle.std.proofs.Common.{[], ◌∷◌, ◌++◌, length, filter, sym, refl, ap, ◌∙◌, inl, inr, arith}
use Rattle.std.proofs.lemmas.Bool.{false≢true, or_left, or_cases, and_parts, eqb-true, not-true, ltb-true, lt-ltb, cases_lt}
use Rattle.std.proofs.lemmas.List.{length_push}
use Rattle.std.proofs.lemmas.List.Elements.{filter-append}
use Rattle.fc_base.specs.Counted.{has, numbers_below}
use Rattle.engine.specs.Numbers.{without}
use Rattle.engine.specs.History.{Event, issue, done, fail, issues, completions, failures, issued, is_done, in_flight, open_writes}
use Rattle.engine.specs.WindowRules.{IsLegal}
use Rattle.engine.specs.Kept.{has_completed}
use Rattle.engine.specs.Counting.{StaysInOneWindow}
use Rattle.fc_base.specs.NumberLaws.{has_push, has_filter, has_numbers_below}
use Rattle.engine.proofs.NumberLemmas.{filter_not_push, filter-without, filter_twice, length_filter_without}

-- the writes issued are the numbers below their number
pub issues_are_numbers : (depth window : ℕ) (h : List Event) → IsLegal depth window h → issues h ≡ numbers_below (issued h)
issues_are_numbers depth window [] l = refl
issues_are_numbers depth window (issue k ∷ h) l =
    let e : issued (issue k ∷ h) ≡ suc (issued h) = omega (arith, length_push (issues h) k) in
    rw (e, l.1) (ap (λ xs. xs ++ issued h ∷ []) (issues_are_numbers depth window h l.0))
issues_are_numbers depth window (done k ∷ h) l = issues_are_numbers depth window h l.0
issues_are_numbers depth window (fail k ∷ h) l = issues_are_numbers depth window h l.0

pub in_flight_are_numbers : (depth window : ℕ) (h : List Event) → IsLegal depth window h
    → in_flight h ≡ filter (λ k. not (is_done h k)) (numbers_below (issued h))
in_flight_are_numbers depth window h l = ap (filter (λ k. not (is_done h k))) (issues_are_numbers depth window h l)

pub has_in_flight : (depth window : ℕ) (h : List Event) → IsLegal depth window h → (k : ℕ) → has (in_flight h) k ≡ (ltb k (issued h) && not (is_done h k))
has_in_flight depth window h l k =
    has_filter (λ j. not (is_done h j)) (issues h) k
    ∙ ap (λ b. b && not (is_done h k)) (ap (λ xs. has xs k) (issues_are_numbers depth window h l) ∙ has_numbers_below (issued h) k)

-- an open write was issued and hasn't completed
pub open_is : (depth window : ℕ) (h : List Event) → IsLegal depth window h → (k : ℕ) → has (open_writes h) k ≡ true → (k < issued h) × (is_done h k ≡ false)
open_is depth window h l k o =
    let flying = and_parts (has (in_flight h) k) (not (has (failures h) k)) (sym (has_filter (λ j. not (has (failures h) j)) (in_flight h) k) ∙ o) in
    let parts = and_parts (ltb k (issued h)) (not (is_done h k)) (sym (has_in_flight depth window h l k) ∙ flying.0) in
    (ltb-true k (issued h) parts.0, not-true (is_done h k) parts.1)

pub done_issued : (depth window : ℕ) (h : List Event) → IsLegal depth window h → (k : ℕ) → is_done h k ≡ true → k < issued h
done_issued depth window [] l k e = absurd (false≢true e)
done_issued depth window (issue m ∷ h) l k e = omega (arith, length_push (issues h) m, done_issued depth window h l.0 k e)
done_issued depth window (done m ∷ h) l k e = elim (or_cases (is_done h k) (eqb m k) (sym (has_push (completions h) m k) ∙ e)) [
  | inl before ↦ done_issued depth window h l.0 k before
  | inr now ↦ omega (arith, eqb-true m k now, (open_is depth window h l.0 m l.1).0)
]
done_issued depth window (fail m ∷ h) l k e = done_issued depth window h l.0 k e

pub failed_issued : (depth window : ℕ) (h : List Event) → IsLegal depth window h → (k : ℕ) → has (failures h) k ≡ true → k < issued h
failed_issued depth window [] l k e = absurd (false≢true e)
failed_issued depth window (issue m ∷ h) l k e = omega (arith, length_push (issues h) m, failed_issued depth window h l.0 k e)
failed_issued depth window (done m ∷ h) l k e = failed_issued depth window h l.0 k e
failed_issued depth window (fail m ∷ h) l k e = elim (or_cases (has (failures h) k) (eqb m k) (sym (has_push (failures h) m k) ∙ e)) [
  | inl before ↦ failed_issued depth window h l.0 k before
  | inr now ↦ omega (arith, eqb-true m k now, (open_is depth window h l.0 m l.1).0)
]

-- a write that lies more than a window below the number issued has completed
pub old_is_done : (depth window : ℕ) (h : List Event) → IsLegal depth window h → (k : ℕ) → k + window < issued h → is_done h k ≡ true
old_is_done depth window [] l k old = absurd (omega arith)
old_is_done depth window (issue m ∷ h) l k old = l.3 k (omega (arith, length_push (issues h) m))
old_is_done depth window (done m ∷ h) l k old =
    has_push (completions h) m k ∙ or_left (is_done h k) (eqb m k) (old_is_done depth window h l.0 k old)
old_is_done depth window (fail m ∷ h) l k old = old_is_done depth window h l.0 k old

-- ---- what an event changes

not_below : {n : ℕ} (b : Bool) → (b ≡ true → n < n) → b ≡ false
not_below true h = absurd (omega (arith, h refl))
not_below false h = refl

pub in_flight-issue : (depth window : ℕ) (h : List Event) → IsLegal depth window h → in_flight (issue (issued h) ∷ h) ≡ in_flight h ++ issued h ∷ []
in_flight-issue depth window h l =
    let new : is_done h (issued h) ≡ false = not_below _ (done_issued depth window h l (issued h)) in
    rw (filter-append (λ k. not (is_done h k)) (issues h) (issued h ∷ []), new) refl

pub open_writes-issue : (depth window : ℕ) (h : List Event) → IsLegal depth window h → open_writes (issue (issued h) ∷ h) ≡ open_writes h ++ issued h ∷ []
open_writes-issue depth window h l =
    let new : has (failures h) (issued h) ≡ false = not_below _ (failed_issued depth window h l (issued h)) in
    ap (filter (λ k. not (has (failures h) k))) (in_flight-issue depth window h l)
    ∙ (rw (filter-append (λ k. not (has (failures h) k)) (in_flight h) (issued h ∷ []), new) refl)

pub in_flight-done : (m : ℕ) (h : List Event) → in_flight (done m ∷ h) ≡ without m (in_flight h)
in_flight-done m h = filter_not_push (completions h) m (issues h)

pub open_writes-done : (m : ℕ) (h : List Event) → open_writes (done m ∷ h) ≡ without m (open_writes h)
open_writes-done m h =
    let p = λ (k : ℕ). not (has (failures h) k) in
    ap (filter p) (in_flight-done m h) ∙ filter-without p m (in_flight h)

pub open_writes-fail : (m : ℕ) (h : List Event) → open_writes (fail m ∷ h) ≡ without m (open_writes h)
open_writes-fail m h = filter_not_push (failures h) m (in_flight h)

-- ---- how many writes are in flight

pub length-in_flight-done : (depth window : ℕ) (m : ℕ) (h : List Event) → IsLegal depth window (done m ∷ h)
    → length (in_flight (done m ∷ h)) + 1 ≡ length (in_flight h)
length-in_flight-done depth window m h l =
    let was = open_is depth window h l.0 m l.1 in
    let p = λ (k : ℕ). not (is_done h k) in
    let e = in_flight_are_numbers depth window h l.0 in
    let less : in_flight (done m ∷ h) ≡ filter (λ j. p j && not (eqb j m)) (numbers_below (issued h)) =
    in_flight-done m h ∙ ap (without m) e ∙ filter_twice p (λ k. not (eqb k m)) (numbers_below (issued h)) in
    omega (arith, ap length less, ap length e, length_filter_without p (issued h) m was.0 (ap not was.1))

pub few_in_flight : (depth window : ℕ) (h : List Event) → IsLegal depth window h → length (in_flight h) ≤ depth
few_in_flight depth window [] l = omega arith
few_in_flight depth window (issue m ∷ h) l =
    let e : in_flight (issue m ∷ h) ≡ in_flight h ++ issued h ∷ [] = rw (l.1) (in_flight-issue depth window h l.0) in
    omega (arith, ap length e, length_push (in_flight h) (issued h), l.2)
few_in_flight depth window (done m ∷ h) l = omega (arith, length-in_flight-done depth window m h l, few_in_flight depth window h l.0)
few_in_flight depth window (fail m ∷ h) l = few_in_flight depth window h l.0

-- each write issued is in flight or completed
pub length-in_flight-completions : (depth window : ℕ) (h : List Event) → IsLegal depth window h → length (in_flight h) + length (completions h) ≡ issued h
length-in_flight-completions depth window [] l = refl
length-in_flight-completions depth window (issue m ∷ h) l =
    let e : in_flight (issue m ∷ h) ≡ in_flight h ++ issued h ∷ [] = rw (l.1) (in_flight-issue depth window h l.0) in
    omega (arith, ap length e, length_push (in_flight h) (issued h), length_push (issues h) m, length-in_flight-completions depth window h l.0)
length-in_flight-completions depth window (done m ∷ h) l =
    omega (arith, length-in_flight-done depth window m h l, length_push (completions h) m, length-in_flight-completions depth window h l.0)
length-in_flight-completions depth window (fail m ∷ h) l = length-in_flight-completions depth window h l.0

-- ---- all that is in flight lies in one window

in_flight_near : (depth window : ℕ) (h : List Event) → IsLegal depth window h → (k : ℕ) → has (in_flight h) k ≡ true → (k < issued h) × (issued h ≤ k + window)
in_flight_near depth window h l k e =
    let parts = and_parts (ltb k (issued h)) (not (is_done h k)) (sym (has_in_flight depth window h l k) ∙ e) in (
      ltb-true k (issued h) parts.0,
      elim (cases_lt (k + window) (issued h)) [
        | inl old ↦ absurd (false≢true (sym (not-true (is_done h k) parts.1) ∙ old_is_done depth window h l k old))
        | inr near ↦ near
      ],
    )

pub stays_in_one_window : StaysInOneWindow
stays_in_one_window depth window h l = record {
  numbered = issues_are_numbers depth window h l;
  few = few_in_flight depth window h l;
  near = in_flight_near depth window h l;
}

-- ---- the marks of the last writes

and_between : (issued flying was_done : Bool) → flying ≡ (issued && not was_done) → (was_done ≡ true → issued ≡ true) → (issued && not flying) ≡ was_done
and_between true flying true e below = ap not e
and_between true flying false e below = ap not e
and_between false flying true e below = below refl
and_between false flying false e below = refl

-- what is issued and not in flight has completed
pub completed_is_done : (depth window : ℕ) (h : List Event) → IsLegal depth window h → (k : ℕ) → has_completed (issued h) (in_flight h) k ≡ is_done h k
completed_is_done depth window h l k =
    and_between (ltb k (issued h)) (has (in_flight h) k) (is_done h k) (has_in_flight depth window h l k)
    (λ e. lt-ltb k (issued h) (done_issued depth window h l k e))
