-- What a count of faults says.
use Rattle.std.proofs.Common.{◌≡◌, ◌⊎◌, ◌<◌, ◌≤◌, ℕ, zero, suc, ◌+◌, Bool, true, false, length, filter, inl, inr, refl, ap, arith}
use Rattle.std.specs.List.{range_with_len}
use Rattle.std.proofs.lemmas.Bool.{cases_lt}
use Rattle.disk_model.specs.File.{File}
use Rattle.fc_base.specs.declared.report.ReportParts.{ReportParts}
use Rattle.fc_base.specs.declared.report.ReportEnd.TheVariants.{Whole}
use Rattle.recheck.specs.Disk.{held_by, IsCut, IsWhole}
use Rattle.recheck.specs.Expected.{Expected}
use Rattle.recheck.specs.Faults.{is_fault}

-- Where none of these numbers passes, this one doesn't.
pub none_passes : (p : ℕ → Bool) (a n j : ℕ) → length (filter p (range_with_len a n)) ≡ 0 → a ≤ j → j < a + n → p j ≡ true → ⊥
none_passes p a zero j none least most pass = absurd (omega arith)
none_passes p a (suc n) j none least most pass = by (p a) refl (none_passes p (a + 1) n j)
  where
    by : (b : Bool) → p a ≡ b → (length (filter p (range_with_len (a + 1) n)) ≡ 0 → a + 1 ≤ j → j < a + 1 + n → p j ≡ true → ⊥) → ⊥
    by true e rest = let some : suc (length (filter p (range_with_len (a + 1) n))) ≡ 0 = rw e at none in absurd cc
    by false e rest = let fewer : length (filter p (range_with_len (a + 1) n)) ≡ 0 = rw e at none in elim (cases_lt a j) [
      | inl more ↦ rest fewer (omega arith) (omega arith) pass
      | inr less ↦ let same : a ≡ j = omega arith in absurd cc
    ]

-- Where each of them fails, none passes.
pub all_fail : (p : ℕ → Bool) (a n : ℕ) → ((j : ℕ) → a ≤ j → j < a + n → p j ≡ false) → length (filter p (range_with_len a n)) ≡ 0
all_fail p a zero fail = refl
all_fail p a (suc n) fail =
    let first : p a ≡ false = fail a (omega arith) (omega arith) in
    rw first (all_fail p (a + 1) n (λ j least most. fail j (omega arith) (omega arith)))

-- A check that has seen all blocks counts their faults.
pub counts_all : (e : Expected) (old new : File) (r : ReportParts) → IsWhole e false old new r ⊎ ((block : ℕ) × IsCut e false old new r block) → r.end ≡ Whole
    → r.faults ≡ length (filter (is_fault e (held_by old e.job)) (range_with_len 0 e.job.blocks))
counts_all e old new r (inl seen) end = ap (λ (x : ReportParts). x.faults) seen.report
counts_all e old new r (inr cut) end = let ended = ap (λ (x : ReportParts). x.end) cut.1.report in absurd cc
