-- What each event leaves of a window that stands for a history.
use Rattle.std.proofs.Common.{◌≡◌, ℕ, ◌+◌, ◌*◌, ◌<◌, Bool, true, false, cond, not, eqb, ltb, leb}
use Rattle.std.proofs.Common.{List, [], ◌∷◌, length, sym, refl, ap, ◌∙◌, subst, inl, inr, arith}
use Rattle.std.specs.List.{list_any}
use Rattle.std.proofs.lemmas.Bool.{cases_Bool, false≢true, or_left, or_right, or_cases, and_parts, and_from}
use Rattle.std.proofs.lemmas.Bool.{eqb-true, eq-eqb, not-true, lt-ltb, leb-true, leb-false, le-leb}
use Rattle.std.proofs.lemmas.List.{length_push}
use Rattle.fc_base.specs.Counted.{has}
use Rattle.fc_base.specs.Marks.{floor_of, marks_of}
use Rattle.fc_base.specs.MarkLaws.{marks_agree}
use Rattle.engine.specs.History.{Event, issue, done, fail, completions, issued, is_done, in_flight}
use Rattle.engine.specs.WindowRules.{IsLegal, IsClear, HasRoom}
use Rattle.engine.specs.Kept.{Kept, kept_of, StandsFor, has_completed, room_of, after_issue, after_done, after_fail}
use Rattle.engine.specs.declared.room.Room.TheVariants.{Open, Depth, Held}
use Rattle.engine.proofs.NumberLemmas.{last_of_push}
use Rattle.engine.proofs.HistoryLemmas.{completed_is_done, has_in_flight, in_flight-issue, in_flight-done}
use Rattle.engine.proofs.HistoryLemmas.{open_writes-issue, open_writes-done, open_writes-fail}

-- ---- a test of some number in a list

pub any_from_has : (p : ℕ → Bool) (xs : List ℕ) (j : ℕ) → has xs j ≡ true → p j ≡ true → list_any p xs ≡ true
any_from_has p [] j h e = h
any_from_has p (x ∷ xs) j h e = elim (or_cases (eqb x j) (has xs j) h) [
  | inl here ↦ or_left (p x) (list_any p xs) (ap p (eqb-true x j here) ∙ e)
  | inr there ↦ or_right (p x) (list_any p xs) (any_from_has p xs j there e)
]

pub has_from_any : (p : ℕ → Bool) (xs : List ℕ) → list_any p xs ≡ true → (j : ℕ) × (has xs j ≡ true) × (p j ≡ true)
has_from_any p [] e = absurd (false≢true e)
has_from_any p (x ∷ xs) e = elim (or_cases (p x) (list_any p xs) e) [
  | inl here ↦ (x, or_left (eqb x x) (has xs x) (eq-eqb x x refl), here)
  | inr there ↦ let found = has_from_any p xs there in (found.0, or_right (eqb x found.0) (has xs found.0) found.1, found.2)
]

-- ---- the room

clear_from_none : (depth window : ℕ) (h : List Event) → 0 < window → IsLegal depth window h → list_any (λ j. leb (j + window) (issued h)) (in_flight h) ≡ false
    → IsClear window h
clear_from_none depth window h some l none j le = elim (cases_Bool (is_done h j)) [
  | inl t ↦ t
  | inr f ↦
      let flying : has (in_flight h) j ≡ true =
      has_in_flight depth window h l j ∙ and_from (ltb j (issued h)) (not (is_done h j)) (lt-ltb j (issued h) (omega arith)) (ap not f) in
      absurd (false≢true (sym none ∙ any_from_has (λ i. leb (i + window) (issued h)) (in_flight h) j flying (le-leb (j + window) (issued h) le)))
]

room_at : (depth window : ℕ) (h : List Event) → 0 < window → IsLegal depth window h → (full held : Bool) → leb depth (length (in_flight h)) ≡ full
    → list_any (λ j. leb (j + window) (issued h)) (in_flight h) ≡ held → HasRoom depth window h (cond full Depth (cond held Held Open))
room_at depth window h some l true held e f = leb-true depth (length (in_flight h)) e
room_at depth window h some l false true e f =
    let found = has_from_any (λ j. leb (j + window) (issued h)) (in_flight h) f in
    let parts = and_parts (ltb found.0 (issued h)) (not (is_done h found.0)) (sym (has_in_flight depth window h l found.0) ∙ found.1) in
    (leb-false depth (length (in_flight h)) e, (found.0, leb-true (found.0 + window) (issued h) found.2, not-true (is_done h found.0) parts.1))
room_at depth window h some l false false e f = (leb-false depth (length (in_flight h)) e, clear_from_none depth window h some l f)

-- the room that a window sees is the room that the history leaves
pub room_is : (depth window : ℕ) (kept : Kept) (h : List Event) → 0 < kept.window → StandsFor depth window kept h → HasRoom depth window h (room_of kept)
room_is depth window kept h some_kept s =
    let P : Kept → Type 0 = λ k. HasRoom depth window h (room_of k) in
    let some : 0 < window = omega (arith, ap (λ (k : Kept). k.window) s.kept_is) in
    subst P (sym s.kept_is) (room_at depth window h some s.legal (leb depth (length (in_flight h)))
    (list_any (λ j. leb (j + window) (issued h)) (in_flight h)) refl refl)

-- ---- the marks

-- the marks of what a window shows are those of the history's completions
pub marks_are : (depth window : ℕ) (kept : Kept) (h : List Event) → StandsFor depth window kept h
    → marks_of (has_completed kept.issued kept.in_flight) (floor_of kept.window kept.issued) ≡ marks_of (is_done h) (floor_of window (issued h))
marks_are depth window kept h s =
    let floor = floor_of window (issued h) in
    ap (λ (k : Kept). marks_of (has_completed k.issued k.in_flight) (floor_of k.window k.issued)) s.kept_is
    ∙ marks_agree (has_completed (issued h) (in_flight h)) (is_done h) floor (λ i small. completed_is_done depth window h s.legal (floor + i))

-- ---- the three events

abbrev pub kept_with : ℕ → ℕ → ℕ → List ℕ → List ℕ → List ℕ → Kept
kept_with depth window n last flying opened = record { depth = depth; window = window; issued = n; recent = last; in_flight = flying; open_writes = opened }

pub same_kept : (depth window m n : ℕ) (last last' flying flying' opened opened' : List ℕ) → m ≡ n → last ≡ last' → flying ≡ flying' → opened ≡ opened'
    → kept_with depth window m last flying opened ≡ kept_with depth window n last' flying' opened'
same_kept depth window m n last last' flying flying' opened opened' a b c d = cc

pub issue_step : (depth window : ℕ) (old new : Kept) (h : List Event) → 0 < old.window → room_of old ≡ Open → new ≡ after_issue old
    → StandsFor depth window old h → StandsFor depth window new (issue old.issued ∷ h)
issue_step depth window old new h some space left s =
    let next : old.issued ≡ issued h = ap (λ (kept : Kept). kept.issued) s.kept_is in
    let free = subst (HasRoom depth window h) space (room_is depth window old h some s) in
    record {
      legal = (s.legal, next, free.0, free.1);
      kept_is = left ∙ ap after_issue s.kept_is
          ∙ same_kept depth window (issued h + 1) (issued (issue (issued h) ∷ h)) _ _ _ _ _ _ (sym (length_push _ (issued h))) refl
          (sym (in_flight-issue depth window h s.legal)) (sym (open_writes-issue depth window h s.legal))
          ∙ ap (λ k. kept_of depth window (issue k ∷ h)) (sym next);
    }

pub done_step : (depth window : ℕ) (old new : Kept) (h : List Event) (k : ℕ) → has old.open_writes k ≡ true → new ≡ after_done old k
    → StandsFor depth window old h → StandsFor depth window new (done k ∷ h)
done_step depth window old new h k opened left s = record {
  legal = (s.legal, sym (ap (λ (kept : Kept). has kept.open_writes k) s.kept_is) ∙ opened);
  kept_is = left ∙ ap (λ kept. after_done kept k) s.kept_is
      ∙ same_kept depth window (issued h) (issued h) _ _ _ _ _ _ refl (last_of_push (2 * window) (completions h) k) (sym (in_flight-done k h))
      (sym (open_writes-done k h));
}

pub fail_step : (depth window : ℕ) (old new : Kept) (h : List Event) (k : ℕ) → has old.open_writes k ≡ true → new ≡ after_fail old k
    → StandsFor depth window old h → StandsFor depth window new (fail k ∷ h)
fail_step depth window old new h k opened left s = record {
  legal = (s.legal, sym (ap (λ (kept : Kept). has kept.open_writes k) s.kept_is) ∙ opened);
  kept_is = left ∙ ap (λ kept. after_fail kept k) s.kept_is
      ∙ same_kept depth window (issued h) (issued h) _ _ _ _ _ _ refl refl refl (sym (open_writes-fail k h));
}
