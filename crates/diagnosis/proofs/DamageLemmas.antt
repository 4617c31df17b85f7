-- Damaged copies of writes.
use Rattle.std.proofs.Common.{◌≡◌, ℕ, zero, suc, ◌<◌, ◌≤◌, Bool, true, false, ◌&&◌, ◌||◌, eqb, List, [], ◌∷◌, length, get_or, take, refl, sym, ap, subst, ◌∙◌, arith}
use Rattle.std.specs.List.{list_any}
use Rattle.std.proofs.lemmas.Bool.{eq-eqb, or_right}
use Rattle.std.proofs.lemmas.List.{take_all}
use Rattle.recheck.specs.declared.expected.BlockWrites.{BlockWrites}
use Rattle.recheck.specs.Faults.{writes_to}

-- ---- writes in flight to a block

-- Of the writes that go to a block one passes.
any_to : (test : ℕ → Bool) (block : ℕ) (writes : List BlockWrites)
    → list_any test (writes_to block writes) ≡ list_any (λ w. eqb w.block block && test w.seq) writes
any_to test block [] = refl
any_to test block (w ∷ ws) = by (eqb w.block block) refl (any_to test block ws)
  where
    by : (b : Bool) → eqb w.block block ≡ b → list_any test (writes_to block ws) ≡ list_any (λ v. eqb v.block block && test v.seq) ws
        → list_any test (writes_to block (w ∷ ws)) ≡ (eqb w.block block && test w.seq || list_any (λ v. eqb v.block block && test v.seq) ws)
    by true e rest = rw (e, rest) refl
    by false e rest = rw (e, rest) refl

-- A passing element is one that passes.
any_at : {X : Type 0} (q : X → Bool) (xs : List X) (i : ℕ) (d : X) → i < length xs → q (get_or xs i d) ≡ true → list_any q xs ≡ true
any_at q [] i d lt e = absurd (omega arith)
any_at q (x ∷ xs) zero d lt e = rw e refl
any_at q (x ∷ xs) (suc i) d lt e = or_right (q x) (list_any q xs) (any_at q xs i d (omega arith) e)

-- A write of a list that goes to the block and passes.
pub found_at : (test : ℕ → Bool) (block : ℕ) (writes : List BlockWrites) (i : ℕ) (w : BlockWrites) → i < length writes → w ≡ get_or writes i w → w.block ≡ block
    → test w.seq ≡ true → list_any test (writes_to block writes) ≡ true
found_at test block writes i w lt is here passes =
    any_to test block writes
    ∙ any_at (λ v. eqb v.block block && test v.seq) writes i w lt
    (subst (λ v. (eqb v.block block && test v.seq) ≡ true) is (rw (eq-eqb w.block block here, passes) refl))

-- None of a list goes to the block and passes.
pub none_found : (test : ℕ → Bool) (block : ℕ) (writes : List BlockWrites) (n : ℕ) → length writes ≤ n
    → list_any (λ v. eqb v.block block && test v.seq) (take n writes) ≡ false → list_any test (writes_to block writes) ≡ false
none_found test block writes n all none =
    any_to test block writes ∙ ap (list_any (λ v. eqb v.block block && test v.seq)) (sym (take_all n writes all)) ∙ none
