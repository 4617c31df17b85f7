-- Reading a report: what its numbers and blocks say, and when it is whole.
use Rattle.std.proofs.Common.{◌≡◌, ℕ, ◌+◌, ◌*◌, ◌<◌, ◌≤◌, Bool, true, false, ◌&&◌, Option, Some, None, Result, Ok}
use Rattle.std.proofs.Common.{Err, if◌then◌else◌, List, [], ◌∷◌, length, drop, refl, sym, ap, ◌∙◌, inl, inr, arith}
use Rattle.std.specs.Prelude.{◌==◌, slice_index}
use Rattle.std.specs.Option.{option_map}
use Rattle.std.proofs.lemmas.Bool.{cases_eq}
use Rattle.std.proofs.lemmas.Bool.Decides.{nat_tests}
use Rattle.std.proofs.lemmas.List.{length-drop}
use Rattle.fc_base.specs.declared.report.ReportParts.{ReportParts}
use Rattle.fc_base.specs.declared.report.ReportEnd.{ReportEnd}
use Rattle.fc_base.specs.Report.{is_report}
use Rattle.messages.specs.declared.body.Body.{Body}
use Rattle.messages.specs.declared.body.Body.TheVariants.{Report}
use Rattle.messages.specs.declared.kind.PacketKind.TheVariants as kinds
use Rattle.messages.specs.declared.reading.report.ReportFields.{ReportFields}
use Rattle.fc_base.specs.Layouts.{numbers, spelled_blocks, blocks_in}
use Rattle.messages.specs.Ranges.{is_run, is_attempt, is_job_of, is_body}
use Rattle.messages.specs.Bodies.{layout, length_of, end_numbered, body_of, whole, body_at}
use Rattle.messages.proofs.LayoutLemmas.{length-blocks_in, length-spelled_blocks}

abbrev pub listed : ReportFields → List ℕ
listed f = f.run ∷ f.attempt ∷ f.job ∷ f.jobs ∷ f.end ∷ f.at ∷ f.checked ∷ f.faults ∷ f.count ∷ []

abbrev pub parts_in : ReportFields → List ℕ → ReportEnd → ReportParts
parts_in f blocks end = record { checked = f.checked; faults = f.faults; first = blocks_in f.count blocks; end = end }

abbrev pub report_in : ReportFields → List ℕ → ReportEnd → Body
report_in f blocks end = Report f.run f.attempt f.job f.jobs (parts_in f blocks end)

pub report_at : (bytes : List ℕ) (f : ReportFields) → listed f ≡ numbers (layout kinds.Report) bytes
    → body_at kinds.Report bytes ≡ whole bytes (option_map (report_in f (drop 41 bytes)) (end_numbered f.end f.at))
report_at bytes f e = ap (λ (ns : List ℕ). whole bytes (body_of kinds.Report ns (drop 41 bytes))) (sym e)

abbrev fields_in : List ℕ → ReportFields
fields_in ns = record {
  run = slice_index ns 0;
  attempt = slice_index ns 1;
  job = slice_index ns 2;
  jobs = slice_index ns 3;
  end = slice_index ns 4;
  at = slice_index ns 5;
  checked = slice_index ns 6;
  faults = slice_index ns 7;
  count = slice_index ns 8;
}

whole_short : (bytes : List ℕ) (g : ReportEnd → Body) (o : Option ReportEnd) → ((end : ReportEnd) → whole bytes (Some (g end)) ≡ None)
    → whole bytes (option_map g o) ≡ None
whole_short bytes g None none = refl
whole_short bytes g (Some end) none = none end

not_whole : (bytes : List ℕ) (b : Body) (exact ranges : Bool) → exact ≡ false → (if exact && ranges then Some b else None) ≡ None
not_whole bytes b true ranges e = absurd cc
not_whole bytes b false ranges e = refl

pub report_short : (bytes : List ℕ) → length bytes < 41 → body_at kinds.Report bytes ≡ None
report_short bytes lt =
    let f = fields_in (numbers (layout kinds.Report) bytes) in
    report_at bytes f refl ∙ whole_short bytes (report_in f (drop 41 bytes)) (end_numbered f.end f.at) (λ end.
    let b = report_in f (drop 41 bytes) end in
    not_whole bytes b (length_of b == length bytes) (is_body b) (grind (arith, nat_tests)))

-- Where the blocks aren't as many as they should be.
pub report_uneven : (bytes blocks : List ℕ) (f : ReportFields) (end : ReportEnd) → listed f ≡ numbers (layout kinds.Report) bytes → blocks ≡ drop 41 bytes
    → 41 ≤ length bytes → end_numbered f.end f.at ≡ Some end → (length blocks ≡ 4 * f.count → ⊥) → body_at kinds.Report bytes ≡ None
report_uneven bytes blocks f end e behind le known uneven =
    let b = report_in f (drop 41 bytes) end in
    let there : length blocks + 41 ≡ length bytes = omega (arith, ap length behind, length-drop 41 bytes) in
    let spelled : length (spelled_blocks (blocks_in f.count (drop 41 bytes))) ≡ 4 * f.count =
    omega (arith, length-spelled_blocks (blocks_in f.count (drop 41 bytes)), length-blocks_in f.count (drop 41 bytes)) in
    let no : (length_of b == length bytes) ≡ false = grind (arith, nat_tests) in
    report_at bytes f e ∙ rw known (not_whole bytes b (length_of b == length bytes) (is_body b) no)

-- Where they are, and the numbers are in their ranges.
pub report_even : (bytes blocks : List ℕ) (f : ReportFields) (end : ReportEnd) → listed f ≡ numbers (layout kinds.Report) bytes → blocks ≡ drop 41 bytes
    → 41 ≤ length bytes → end_numbered f.end f.at ≡ Some end → length blocks ≡ 4 * f.count
    → body_at kinds.Report bytes ≡ (if is_body (report_in f blocks end) then Some (report_in f blocks end) else None)
report_even bytes blocks f end e behind le known even =
    let there : length blocks + 41 ≡ length bytes = omega (arith, ap length behind, length-drop 41 bytes) in
    let spelled : length (spelled_blocks (blocks_in f.count blocks)) ≡ 4 * f.count =
    omega (arith, length-spelled_blocks (blocks_in f.count blocks), length-blocks_in f.count blocks) in
    let yes : (length_of (report_in f blocks end) == length bytes) ≡ true = grind (arith, nat_tests) in
    report_at bytes f e ∙ ap (λ (bs : List ℕ). whole bytes (option_map (report_in f bs) (end_numbered f.end f.at))) (sym behind) ∙ rw (known, yes) refl

out_of_range : (run attempt job report : Bool) → report ≡ false → (run && attempt && job && report) ≡ false
out_of_range true true true report e = e
out_of_range true true false report e = refl
out_of_range true false job report e = refl
out_of_range false attempt job report e = refl

-- Numbers that make no report.
pub report_none : (f : ReportFields) (blocks : List ℕ) (end : ReportEnd) → is_report (parts_in f blocks end) ≡ false
    → (if is_body (report_in f blocks end) then Some (report_in f blocks end) else None) ≡ None
report_none f blocks end refused =
    let out = out_of_range (is_run f.run) (is_attempt f.attempt) (is_job_of f.job f.jobs) (is_report (parts_in f blocks end)) refused in
    rw out refl

pub too_many : (f : ReportFields) (blocks : List ℕ) (end : ReportEnd) → 32 < f.count → is_report (parts_in f blocks end) ≡ false
too_many f blocks end many =
    let long = length-blocks_in f.count blocks in
    grind (arith, nat_tests)

-- More blocks than a report lists.
pub report_long : (bytes blocks : List ℕ) (f : ReportFields) (end : ReportEnd) → listed f ≡ numbers (layout kinds.Report) bytes → blocks ≡ drop 41 bytes
    → 41 ≤ length bytes → end_numbered f.end f.at ≡ Some end → 32 < f.count → body_at kinds.Report bytes ≡ None
report_long bytes blocks f end e behind le known many = elim (cases_eq (length blocks) (4 * f.count)) [
  | inl even ↦ report_even bytes blocks f end e behind le known even ∙ report_none f blocks end (too_many f blocks end many)
  | inr uneven ↦ report_uneven bytes blocks f end e behind le known uneven
]

abbrev pub parts_with : ReportFields → List ℕ → ReportEnd → ReportParts
parts_with f first end = record { checked = f.checked; faults = f.faults; first = first; end = end }

abbrev pub made_of : ReportParts → Result ReportParts ReportParts
made_of r = if is_report r then Ok r else Err r

ok_of : (t : Bool) (x y : ReportParts) → (let r : Result ReportParts ReportParts = if t then Ok x else Err x in r) ≡ Ok y → x ≡ y
ok_of true x y e = cc
ok_of false x y e = absurd cc

err_of : (t : Bool) (x y : ReportParts) → (let r : Result ReportParts ReportParts = if t then Ok x else Err x in r) ≡ Err y → t ≡ false
err_of true x y e = absurd cc
err_of false x y e = refl

-- The report that is made is that of these numbers.
pub report_kept : (f : ReportFields) (end : ReportEnd) (blocks first : List ℕ) (r : ReportParts) → first ≡ blocks_in f.count blocks
    → made_of (parts_with f first end) ≡ Ok r → r ≡ parts_in f blocks end
report_kept f end blocks first r is made =
    sym (ok_of (is_report (parts_with f first end)) (parts_with f first end) r made) ∙ ap (λ (bs : List ℕ). parts_with f bs end) is

pub report_refused : (f : ReportFields) (end : ReportEnd) (blocks first : List ℕ) (r : ReportParts) → first ≡ blocks_in f.count blocks
    → made_of (parts_with f first end) ≡ Err r → is_report (parts_in f blocks end) ≡ false
report_refused f end blocks first r is made =
    ap (λ (bs : List ℕ). is_report (parts_with f bs end)) (sym is) ∙ err_of (is_report (parts_with f first end)) (parts_with f first end) r made
