-- What is kept of this life, where what is kept of one run or attempt changes.
use Rattle.std.proofs.Common.{◌≡◌, refl, sym, ◌∙◌, ap, subst, ℕ, arith, Bool, true, false, ◌==◌, nat_lt, List, Option, None}
use Rattle.std.specs.Prelude.{cond}
use Rattle.std.specs.Ordering.{nat_cmp, is_eq}
use Rattle.std.specs.declared.cmp.Ordering.TheVariants.{Less, Equal, Greater}
use Rattle.std.specs.BTreeMap.{BTreeMap, get, is_at}
use Rattle.std.proofs.lemmas.Bool.Decides.{nat_tests}
use Rattle.messages.specs.declared.body.Body.{Body}
use Rattle.messages.specs.declared.body.Body.TheVariants as bodies
use Rattle.client_core.specs.declared.received.Received.{Received}
use Rattle.client_core.specs.Life.{Deed}
use Rattle.client_core.specs.Reports.{reports_heard}
use Rattle.client_core.specs.Told.{IsNoReport}

pub same_key : (k q : ℕ) → is_at (nat_cmp k) q ≡ (k == q)
same_key k q = by_less (nat_lt k q) refl
  where
    by_less : (b : Bool) → nat_lt k q ≡ b → is_eq (cond b Less (cond (k == q) Equal Greater)) ≡ (k == q)
    by_less true e = let n : (k == q) ≡ false = grind (arith, nat_tests) in sym n
    by_less false e = by_equal (k == q)
      where
        by_equal : (b : Bool) → is_eq (cond b Equal Greater) ≡ b
        by_equal true = refl
        by_equal false = refl

-- At every number there is what Q wants, where the one at k was set.
pub set_at_key : {X : Type 0} (m n : BTreeMap ℕ X) (j k : ℕ) (w : Option X) (P Q : ℕ → Option X → Type 0) → j ≡ k
    → ((q : ℕ) → get nat_cmp n q ≡ cond (is_at (nat_cmp j) q) w (get nat_cmp m q))
    → Q k w → ((q : ℕ) (x : Option X) → (k == q) ≡ false → P q x → Q q x) → ((q : ℕ) → P q (get nat_cmp m q)) → (q : ℕ) → Q q (get nat_cmp n q)
set_at_key m n j k w P Q is up here there h q = subst (Q q)
    (sym (up q ∙ ap (λ i. cond (is_at (nat_cmp i) q) w (get nat_cmp m q)) is ∙ ap (λ b. cond b w (get nat_cmp m q)) (same_key k q))) (by_same (k == q) refl)
  where
    is_same : (k == q) ≡ true → k ≡ q
    is_same e = grind (arith, nat_tests)

    by_same : (b : Bool) → (k == q) ≡ b → Q q (cond b w (get nat_cmp m q))
    by_same true e = subst (λ j. Q j w) (is_same e) here
    by_same false e = there q (get nat_cmp m q) e (h q)

-- What is found at a key.
pub found_at : {X : Type 0} (m : BTreeMap ℕ X) (j k : ℕ) (x : Option X) (P : Option X → Type 0) → j ≡ k → x ≡ get nat_cmp m j → P (get nat_cmp m k) → P x
found_at m j k x P is e p = subst P (sym (e ∙ ap (get nat_cmp m) is)) p

-- At every number there is what Q wants, where there is none at k.
pub none_at_key : {X : Type 0} (m : BTreeMap ℕ X) (j k : ℕ) (P Q : ℕ → Option X → Type 0) → j ≡ k → None ≡ get nat_cmp m j
    → (P k None → Q k None) → ((q : ℕ) (x : Option X) → (k == q) ≡ false → P q x → Q q x) → ((q : ℕ) → P q (get nat_cmp m q)) → (q : ℕ) → Q q (get nat_cmp m q)
none_at_key m j k P Q is none here there h q = by_same (k == q) refl
  where
    is_same : (k == q) ≡ true → k ≡ q
    is_same e = grind (arith, nat_tests)

    by_same : (b : Bool) → (k == q) ≡ b → Q q (get nat_cmp m q)
    by_same true e =
        let at : None ≡ get nat_cmp m q = none ∙ ap (get nat_cmp m) (is ∙ is_same e) in
        subst (Q q) at (subst (λ i. Q i None) (is_same e) (here (subst (λ i. P i None) (sym (is_same e)) (subst (P q) (sym at) (h q)))))
    by_same false e = there q (get nat_cmp m q) e (h q)

-- What is no report leaves the reports.
pub no_report_heard : (server : ℕ) (body : Body) (deeds : List Deed) (reports : List Received) → IsNoReport body
    → reports_heard deeds server body reports ≡ reports
no_report_heard server (bodies.Report r a job jobs report) deeds reports n = absurd n
no_report_heard server _ deeds reports n = refl
