-- A disk, block by block.
use Rattle.std.proofs.Common.{◌≡◌, ℕ, ◌+◌, ◌-◌, ◌<◌, ◌≤◌, Bool, true, false, List, [], ◌∷◌, ◌++◌}
use Rattle.std.proofs.Common.{length, filter, refl, sym, ap, subst, ◌∙◌, inl, inr, arith}
use Rattle.std.specs.Prelude.{IsSome, nat_lt}
use Rattle.std.specs.List.{range_with_len}
use Rattle.std.proofs.lemmas.Bool.{ltb-true, and_parts, cases_lt}
use Rattle.fc_base.proofs.ListLemmas.{range_append, range_more}
use Rattle.fc_base.specs.declared.report.ReportParts.{ReportParts}
use Rattle.disk_model.specs.File.{File}
use Rattle.recheck.specs.Expected.{Expected}
use Rattle.recheck.specs.Faults.{is_checked, is_fault}
use Rattle.recheck.specs.Report.{tally, looked_at, report, report_of}
use Rattle.recheck.specs.Check.{Check, has_ended, HasSeen}
use Rattle.recheck.specs.Disk.{IsWhole, held_by}
use Rattle.recheck.specs.DiskSteps.{IsSeen}
use Rattle.recheck.proofs.ReportLemmas.{seen_more, through_some}

-- A block that isn't checked may hold anything.
pub skipped : (check : Check) (block : ℕ) (file : File) → has_ended check ≡ false → is_checked check.expected block ≡ false → check.next ≤ block
    → IsSeen check check block file file
skipped check block file open_check out next = record {
  expected = refl;
  fatal = refl;
  next = omega arith;
  seen = λ blocks seen. seen_more check check (held_by file check.expected.job) blocks block open_check refl refl (rw out refl) seen;
  power = λ lt. absurd (omega arith);
  file = refl;
}

-- One block more is seen.
pub seen_on : (e : Expected) (check new_check : Check) (block : ℕ) (start old new : File) → IsSeen check new_check block old new → old ≡ start
    → check.expected ≡ e → HasSeen check (held_by start e.job) (range_with_len 0 block) → HasSeen new_check (held_by start e.job) (range_with_len 0 (block + 1))
seen_on e check new_check block start old new step same expected seen =
    let held : held_by old check.expected.job ≡ held_by start e.job =
    ap (λ (f : File). held_by f check.expected.job) same ∙ ap (λ (x : Expected). held_by start x.job) expected in
    let before : HasSeen check (held_by old check.expected.job) (range_with_len 0 block) =
    subst (λ (h : ℕ → List ℕ). HasSeen check h (range_with_len 0 block)) (sym held) seen in
    let after : HasSeen new_check (held_by old check.expected.job) (range_with_len 0 block ++ block ∷ []) = step.seen (range_with_len 0 block) before in
    subst (λ (h : ℕ → List ℕ). HasSeen new_check h (range_with_len 0 (block + 1))) held
    (subst (λ (xs : List ℕ). HasSeen new_check (held_by old check.expected.job) xs) (sym (range_more block)) after)

-- A block that is counted was read.
pub power_on : (check new_check : Check) (block : ℕ) (start old new : File) → IsSeen check new_check block old new → old ≡ start
    → (0 < check.found.checked → IsSome start.power) → 0 < new_check.found.checked → IsSome start.power
power_on check new_check block start old new step same before some = elim (cases_lt check.found.checked new_check.found.checked) [
  | inl more ↦ subst (λ (f : File). IsSome f.power) same (step.power more)
  | inr none ↦ before (omega arith)
]

-- Where a check has ended, the report of the blocks seen is that of all.
pub ended_report : (fatal : Bool) (e : Expected) (held : ℕ → List ℕ) (check : Check) (n m : ℕ) → has_ended check ≡ true → check.fatal ≡ fatal
    → check.expected ≡ e → n ≤ m → HasSeen check held (range_with_len 0 n) → report fatal e held (range_with_len 0 n) ≡ report fatal e held (range_with_len 0 m)
ended_report fatal e held check n m ended same_fatal same_expected le seen =
    let parts = and_parts check.fatal (nat_lt 0 check.found.faults) ended in
    let is_fatal : fatal ≡ true = sym same_fatal ∙ parts.0 in
    let count : check.found.faults ≡ length (filter (is_fault e held) (range_with_len 0 n)) =
    ap (λ f. f.faults) seen.found ∙ ap (λ (x : Expected). length (filter (is_fault x held) (range_with_len 0 n))) same_expected in
    let some : 0 < length (filter (is_fault e held) (range_with_len 0 n)) = omega (arith, count, ltb-true 0 check.found.faults parts.1) in
    let split : range_with_len 0 m ≡ range_with_len 0 n ++ range_with_len (0 + n) (m - n) =
    ap (range_with_len 0) (omega arith) ∙ range_append 0 n (m - n) in
    let cut : looked_at fatal e held (range_with_len 0 m) ≡ looked_at fatal e held (range_with_len 0 n) =
    rw (is_fatal, split) (through_some (is_fault e held) (range_with_len 0 n) (range_with_len (0 + n) (m - n)) some) in
    ap (λ xs. report_of fatal (tally e held xs)) (sym cut)

-- The report of a check that has ended at a fault.
pub ended_whole : (e : Expected) (fatal : Bool) (check : Check) (n : ℕ) (start now : File) (r : ReportParts) → has_ended check ≡ true → check.fatal ≡ fatal
    → check.expected ≡ e → n ≤ e.job.blocks → HasSeen check (held_by start e.job) (range_with_len 0 n) → r ≡ report_of check.fatal check.found
    → r ≡ report check.fatal check.expected (held_by start e.job) (range_with_len 0 n) → (0 < check.found.checked → IsSome start.power) → now ≡ start
    → IsWhole e fatal start now r
ended_whole e fatal check n start now r ended same_fatal same_expected le seen counted told power same = record {
  report = told ∙ (rw (same_fatal, same_expected) (ended_report fatal e (held_by start e.job) check n e.job.blocks ended same_fatal same_expected le seen));
  power = λ some. power (subst (λ k. 0 < k) (ap (λ p. p.checked) counted) some);
  file = same;
}
