-- Lists of blocks that grow at the end.
use Rattle.std.proofs.Common.{◌≡◌, ℕ, ◌+◌, ◌≤◌, true, List, [], ◌∷◌, ◌++◌, length, take, refl, ap, ◌∙◌, inl, inr, arith, min}
use Rattle.std.specs.Prelude.{nat_lt, Result, Ok, Err, if◌then◌else◌}
use Rattle.std.specs.List.{list_all}
use Rattle.std.proofs.lemmas.Bool.{lt-ltb, ltb-true, le-leb, eq-eqb, and_parts, cases_lt}
use Rattle.std.proofs.lemmas.List.{length_push, take_all, take-append-le}
use Rattle.std.proofs.lemmas.List.Folds.{list_all-append}
use Rattle.fc_base.specs.declared.limits.TheConstants.{MAX_BLOCKS, MAX_LISTED}
use Rattle.fc_base.specs.Ascending.{ascends, is_block}
use Rattle.fc_base.specs.Report.{has_counts, has_list, has_end, is_report}
use Rattle.fc_base.specs.declared.report.ReportParts.{ReportParts}
use Rattle.fc_base.specs.declared.report.ReportEnd.{ReportEnd}
use Rattle.fc_base.specs.declared.report.ReportEnd.TheVariants.{Whole, AtFault, ReadFault}
use Rattle.recheck.specs.Report.{report_with}
use Rattle.ledger.specs.Checks.{is_end}
use Rattle.ledger.specs.Tally.{Counts}

-- Behind an ascending list of numbers below a bound comes one that isn't below it.
pub ascends_push : (xs : List ℕ) (end n : ℕ) → ascends xs ≡ true → list_all (λ x. nat_lt x end) xs ≡ true → end ≤ n → ascends (xs ++ n ∷ []) ≡ true
ascends_push [] end n up below le = refl
ascends_push (x ∷ []) end n up below le =
    let first = and_parts (nat_lt x end) true below in
    let lt = ltb-true x end first.0 in
    rw (lt-ltb x n (omega arith)) refl
ascends_push (x ∷ y ∷ ys) end n up below le =
    let parts = and_parts (nat_lt x y) (ascends (y ∷ ys)) up in
    let rest = and_parts (nat_lt x end) (list_all (λ z. nat_lt z end) (y ∷ ys)) below in
    rw (parts.0) (ascends_push (y ∷ ys) end n parts.1 rest.1 le)

-- Numbers below a bound are below a higher one.
pub below_higher : (xs : List ℕ) (low high : ℕ) → low ≤ high → list_all (λ x. nat_lt x low) xs ≡ true → list_all (λ x. nat_lt x high) xs ≡ true
below_higher [] low high le below = refl
below_higher (x ∷ xs) low high le below =
    let parts = and_parts (nat_lt x low) (list_all (λ y. nat_lt y low) xs) below in
    let lt = ltb-true x low parts.0 in
    rw (lt-ltb x high (omega arith)) (below_higher xs low high le parts.1)

-- What a list of the first MAX_LISTED keeps when one more number comes.
pub record Listed (faults next : ℕ) (first : List ℕ) : Type 0 where
  pub listed : length first ≡ min faults MAX_LISTED
  pub ascending : ascends first ≡ true
  pub below : list_all (λ b. nat_lt b next) first ≡ true

pub listed_more : (faults next block : ℕ) (first : List ℕ) → next ≤ block → Listed faults next first
    → Listed (faults + 1) (block + 1) (take MAX_LISTED (first ++ block ∷ []))
listed_more faults next block first le kept = elim (cases_lt (length first) MAX_LISTED) [
  | inl few ↦
      let whole = take_all MAX_LISTED (first ++ block ∷ []) (omega (arith, length_push first block)) in
      rw whole (record {
        listed = omega (arith, length_push first block, kept.listed);
        ascending = ascends_push first next block kept.ascending kept.below le;
        below = list_all-append (λ b. nat_lt b (block + 1)) first (block ∷ [])
            ∙ rw (below_higher first next (block + 1) (omega arith) kept.below, lt-ltb block (block + 1) (omega arith)) refl;
      })
  | inr many ↦
      let len : length first ≡ MAX_LISTED = omega (arith, kept.listed) in
      let cut : take MAX_LISTED (first ++ block ∷ []) ≡ first =
      take-append-le MAX_LISTED first (block ∷ []) (omega arith) ∙ take_all MAX_LISTED first (omega arith) in
      rw cut (record {
        listed = omega (arith, kept.listed);
        ascending = kept.ascending;
        below = below_higher first next (block + 1) (omega arith) kept.below;
      })
]

-- A check may end so.
ends_so : (parts : ReportParts) → is_end parts.end ≡ true → has_end parts ≡ true
ends_so parts can = by parts.end refl can
  where
    by : (end : ReportEnd) → parts.end ≡ end → is_end end ≡ true → has_end parts ≡ true
    by Whole is ok = rw is refl
    by AtFault is ok = absurd cc
    by (ReadFault block) is ok = rw is ok

-- A tally's numbers make a report.
pub told_by : (noted : Counts) (next checked faults : ℕ) (first items : List ℕ) (end : ReportEnd) (answer : Result ReportParts ReportParts) →
    record { next = next; found = record { checked = checked; faults = faults; first = items } } ≡ noted → first ≡ items → next ≤ MAX_BLOCKS → checked ≤ next →
    faults ≤ checked → Listed faults next items → is_end end ≡ true →
    answer ≡ (if is_report (record { checked = checked; faults = faults; first = first; end = end })
    then Ok (record { checked = checked; faults = faults; first = first; end = end })
    else Err (record { checked = checked; faults = faults; first = first; end = end })) → answer ≡ Ok (report_with noted.found end)
told_by noted next checked faults first items end answer is same below few fewer listed can made =
    let parts : ReportParts = record { checked = checked; faults = faults; first = items; end = end } in
    let blocks : list_all is_block items ≡ true = below_higher items next MAX_BLOCKS below listed.below in
    let counts : has_counts parts ≡ true = rw (le-leb faults checked fewer, le-leb checked MAX_BLOCKS (omega arith)) refl in
    let list : has_list parts ≡ true = rw (eq-eqb (length items) (min faults MAX_LISTED) listed.listed, blocks, listed.ascending) refl in
    let good : is_report parts ≡ true = rw (counts, list, ends_so parts can) refl in
    let answered = (rw (same, good) at made) in
    answered ∙ ap (λ n. Ok (report_with n.found end)) is
