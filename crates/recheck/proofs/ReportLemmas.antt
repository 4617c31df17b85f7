-- Reports, block by block.
use Rattle.std.proofs.Common.{◌≡◌, ℕ, zero, suc, ◌<◌, Bool, true, false, ◌&&◌, List, [], ◌∷◌, ◌++◌}
use Rattle.std.proofs.Common.{length, take, filter, refl, sym, ap, ◌∙◌, inl, inr, arith, append-nil}
use Rattle.std.specs.Prelude.{nat_lt, if◌then◌else◌}
use Rattle.std.proofs.lemmas.Bool.{lt-ltb, cases_lt, cases_Bool}
use Rattle.std.proofs.lemmas.List.{length_push, take_all, take-append-le, length-take}
use Rattle.std.proofs.lemmas.List.Elements.{filter-append}
use Rattle.recheck.specs.declared.verdict.Verdict.TheVariants as verdicts
use Rattle.recheck.specs.Expected.{Expected}
use Rattle.recheck.specs.Faults.{is_checked, is_expected, is_fault, verdict}
use Rattle.recheck.specs.Report.{tally, up_to_first}
use Rattle.recheck.specs.Check.{Check, with_verdict, has_ended, HasSeen}

pub filter_in : (p : ℕ → Bool) (xs : List ℕ) (x : ℕ) → p x ≡ true → filter p (xs ++ x ∷ []) ≡ filter p xs ++ x ∷ []
filter_in p xs x e = rw (filter-append p xs (x ∷ []), e) refl

pub filter_out : (p : ℕ → Bool) (xs : List ℕ) (x : ℕ) → p x ≡ false → filter p (xs ++ x ∷ []) ≡ filter p xs
filter_out p xs x e = rw (filter-append p xs (x ∷ []), e) (append-nil (filter p xs))

-- The first 32 of a list that grows.
first_more : (xs : List ℕ) (x : ℕ) → take 32 (xs ++ x ∷ []) ≡ take 32 (take 32 xs ++ x ∷ [])
first_more xs x = elim (cases_lt (length xs) 32) [
  | inl few ↦ ap (λ ys. take 32 (ys ++ x ∷ [])) (sym (take_all 32 xs (omega arith)))
  | inr many ↦
      let len : length (take 32 xs) ≡ 32 = omega (arith, length-take 32 xs) in
      take-append-le 32 xs (x ∷ []) many ∙ sym (take_all 32 (take 32 xs) (omega arith)) ∙ sym (take-append-le 32 (take 32 xs) (x ∷ []) (omega arith))
]

-- The tally of one block more.
pub tally_more : (e : Expected) (held : ℕ → List ℕ) (xs : List ℕ) (x : ℕ)
    → tally e held (xs ++ x ∷ []) ≡ with_verdict (tally e held xs) x (verdict e x (held x))
tally_more e held xs x = by (is_checked e x) (is_expected e x (held x)) refl refl
  where
    by : (c g : Bool) → is_checked e x ≡ c → is_expected e x (held x) ≡ g
        → tally e held (xs ++ x ∷ []) ≡ with_verdict (tally e held xs) x (if c then (if g then verdicts.Good else verdicts.Fault) else verdicts.Skipped)
    by false g c_is g_is =
        let sound : is_fault e held x ≡ false = rw c_is refl in
        rw (filter_out (is_checked e) xs x c_is, filter_out (is_fault e held) xs x sound) refl
    by true true c_is g_is =
        let sound : is_fault e held x ≡ false = rw (c_is, g_is) refl in
        rw (filter_in (is_checked e) xs x c_is, filter_out (is_fault e held) xs x sound, length_push (filter (is_checked e) xs) x) refl
    by true false c_is g_is =
        let faulty : is_fault e held x ≡ true = rw (c_is, g_is) refl in
        rw (
          filter_in (is_checked e) xs x c_is,
          filter_in (is_fault e held) xs x faulty,
          length_push (filter (is_checked e) xs) x,
          length_push (filter (is_fault e held) xs) x,
          first_more (filter (is_fault e held) xs) x,
        ) refl

-- Where none passes, nothing is cut behind the next one.
pub through_none : (p : ℕ → Bool) (xs : List ℕ) (x : ℕ) → length (filter p xs) ≡ 0 → up_to_first p (xs ++ x ∷ []) ≡ xs ++ x ∷ []
through_none p [] x none = elim (cases_Bool (p x)) [ inl t ↦ rw t refl | inr f ↦ rw f refl ]
through_none p (y ∷ ys) x none = by (p y) refl (through_none p ys x)
  where
    by : (b : Bool) → p y ≡ b → (length (filter p ys) ≡ 0 → up_to_first p (ys ++ x ∷ []) ≡ ys ++ x ∷ []) → up_to_first p (y ∷ ys ++ x ∷ []) ≡ y ∷ ys ++ x ∷ []
    by true e ih = let some : suc (length (filter p ys)) ≡ 0 = rw e at none in absurd cc
    by false e ih = let rest : length (filter p ys) ≡ 0 = rw e at none in rw (e, ih rest) refl

-- Behind one that passes all is cut.
pub through_some : (p : ℕ → Bool) (xs ys : List ℕ) → 0 < length (filter p xs) → up_to_first p (xs ++ ys) ≡ up_to_first p xs
through_some p [] ys some = absurd (omega arith)
through_some p (x ∷ xs) ys some = by (p x) refl (through_some p xs ys)
  where
    by : (b : Bool) → p x ≡ b → (0 < length (filter p xs) → up_to_first p (xs ++ ys) ≡ up_to_first p xs) → up_to_first p (x ∷ xs ++ ys) ≡ up_to_first p (x ∷ xs)
    by true e ih = rw e refl
    by false e ih = let rest : 0 < length (filter p xs) = rw e at some in rw (e, ih rest) refl

no_faults : (fatal : Bool) (faults : ℕ) → (fatal && nat_lt 0 faults) ≡ false → fatal ≡ true → faults ≡ 0
no_faults fatal zero open_check is = refl
no_faults fatal (suc n) open_check is =
    let ended : (fatal && nat_lt 0 (suc n)) ≡ true = rw (is, lt-ltb 0 (suc n) (omega arith)) refl in
    absurd cc

-- A check that has seen blocks sees one more.
pub seen_more : (check new : Check) (held : ℕ → List ℕ) (blocks : List ℕ) (block : ℕ) → has_ended check ≡ false → new.expected ≡ check.expected
    → new.fatal ≡ check.fatal → new.found ≡ with_verdict check.found block (verdict check.expected block (held block)) → HasSeen check held blocks
    → HasSeen new held (blocks ++ block ∷ [])
seen_more check new held blocks block open_check same_expected same_fatal found seen = record {
  uncut = rw (same_expected, same_fatal) (elim (cases_Bool check.fatal) [
    | inl t ↦
        let none : length (filter (is_fault check.expected held) blocks) ≡ 0 =
        sym (ap (λ f. f.faults) seen.found) ∙ no_faults check.fatal check.found.faults open_check t in
        rw t (through_none (is_fault check.expected held) blocks block none)
    | inr f ↦ rw f refl
  ]);
  found = rw (same_expected) (found ∙ ap (λ t. with_verdict t block (verdict check.expected block (held block))) seen.found
      ∙ sym (tally_more check.expected held blocks block));
}
