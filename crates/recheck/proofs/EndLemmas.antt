-- A check that ends at a fault tells all.
use Rattle.std.proofs.Common.{◌≡◌, ℕ, suc, ◌+◌, ◌-◌, ◌≤◌, Bool, true, false, ◌&&◌, List}
use Rattle.std.proofs.Common.{[], ◌∷◌, ◌++◌, length, filter, refl, ap, ◌∙◌, inl, inr, arith}
use Rattle.std.specs.Prelude.{nat_lt, if◌then◌else◌}
use Rattle.std.specs.List.{range_with_len}
use Rattle.std.proofs.lemmas.Bool.{and_parts, cases_lt, ltb-true}
use Rattle.fc_base.specs.declared.report.ReportEnd.{ReportEnd}
use Rattle.fc_base.specs.declared.report.ReportEnd.TheVariants.{AtFault, Whole}
use Rattle.recheck.specs.Expected.{Expected}
use Rattle.recheck.specs.Faults.{is_fault}
use Rattle.recheck.specs.Report.{looked_at, report, report_of, tally, up_to_first}
use Rattle.fc_base.proofs.ListLemmas.{range_append}
use Rattle.recheck.proofs.ReportLemmas.{through_some}

-- Where none passes, nothing is cut.
through_all : (p : ℕ → Bool) (xs : List ℕ) → length (filter p xs) ≡ 0 → up_to_first p xs ≡ xs
through_all p [] none = refl
through_all p (x ∷ xs) none = by (p x) refl (through_all p xs)
  where
    by : (b : Bool) → p x ≡ b → (length (filter p xs) ≡ 0 → up_to_first p xs ≡ xs) → up_to_first p (x ∷ xs) ≡ x ∷ xs
    by true e ih = let some : suc (length (filter p xs)) ≡ 0 = rw e at none in absurd cc
    by false e ih = let rest : length (filter p xs) ≡ 0 = rw e at none in rw (e, ih rest) refl

abbrev end_by : Bool → ReportEnd
end_by b = if b then AtFault else Whole

at_fault : (b : Bool) → end_by b ≡ AtFault → b ≡ true
at_fault true h = refl
at_fault false h = absurd (cc)

pub faults_end : (fatal : Bool) (e : Expected) (held : ℕ → List ℕ) (n m : ℕ) → n ≤ m → (report fatal e held (range_with_len 0 n)).end ≡ AtFault
    → report fatal e held (range_with_len 0 m) ≡ report fatal e held (range_with_len 0 n)
faults_end fatal e held n m le ended =
    let found = tally e held (looked_at fatal e held (range_with_len 0 n)) in
    let parts = and_parts fatal (nat_lt 0 found.faults) (at_fault (fatal && nat_lt 0 found.faults) ended) in
    let is_fatal : fatal ≡ true = parts.0 in
    let split : range_with_len 0 m ≡ range_with_len 0 n ++ range_with_len (0 + n) (m - n) =
    ap (range_with_len 0) (omega arith) ∙ range_append 0 n (m - n) in
    elim (cases_lt 0 (length (filter (is_fault e held) (range_with_len 0 n)))) [
      | inl some ↦
          let cut : looked_at fatal e held (range_with_len 0 m) ≡ looked_at fatal e held (range_with_len 0 n) =
          rw (is_fatal, split) (through_some (is_fault e held) (range_with_len 0 n) (range_with_len (0 + n) (m - n)) some) in
          ap (λ xs. report_of fatal (tally e held xs)) cut
      | inr none ↦
          let none_is : length (filter (is_fault e held) (range_with_len 0 n)) ≡ 0 = omega (arith, none) in
          let all : looked_at fatal e held (range_with_len 0 n) ≡ range_with_len 0 n =
          rw is_fatal (through_all (is_fault e held) (range_with_len 0 n) none_is) in
          let faults_are : found.faults ≡ 0 = ap (λ xs. length (filter (is_fault e held) xs)) all ∙ none_is in
          absurd (omega (arith, faults_are, ltb-true 0 found.faults parts.1))
    ]
