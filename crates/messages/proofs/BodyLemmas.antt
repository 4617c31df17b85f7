-- How many bytes a body has, and that its numbers fit their widths.
use Rattle.std.proofs.Common.{◌≡◌, ℕ, ◌≤◌, Bool, true, false, ◌&&◌, Option, Some, None, if◌then◌else◌, List, length, drop, subst, refl, arith}
use Rattle.std.proofs.lemmas.Bool.Decides.{nat_tests}
use Rattle.std.specs.Prelude.{IsTrue}
use Rattle.std.specs.Int.{w8, w32, w64}
use Rattle.std.proofs.lemmas.Bool.{and_parts, leb-true}
use Rattle.std.proofs.lemmas.List.{length-append}
use Rattle.std.proofs.lemmas.Option.{same_Some}
use Rattle.fc_base.specs.declared.limits.TheConstants.{MAX_LISTED, MAX_TEXT}
use Rattle.fc_base.specs.declared.report.ReportParts.{ReportParts}
use Rattle.fc_base.specs.Report.{is_report}
use Rattle.messages.specs.declared.body.Body.{Body}
use Rattle.messages.specs.declared.body.Body.TheVariants.{Jobs, JobsOk, Start, Started, Trigger, State, NoState, StateAck, Stop, Stopped}
use Rattle.messages.specs.declared.body.Body.TheVariants.{Verify, WantState, Saved, NoSaved, Report, Refused, Copy, CopyOk, Fetch, Granted}
use Rattle.messages.specs.declared.kind.PacketKind.{PacketKind}
use Rattle.messages.specs.declared.kind.PacketKind.TheVariants as kinds
use Rattle.fc_base.specs.Layouts.{number_in, size, spelled, numbers}
use Rattle.messages.specs.declared.limits.TheConstants.{MAX_BODY}
use Rattle.messages.specs.Ranges.{is_run, is_attempt, is_job_of, is_text, is_body, KeepsState}
use Rattle.messages.specs.Bodies.{kind_of, layout, numbers_of, tail_of, spelled_body, length_of, length_limit, takes_all, body_of, is_whole, whole, body_at}
use Rattle.messages.specs.Choices.{asked_numbered, reason_numbered}
use Rattle.messages.specs.declared.refusal.RefusedRequest.{RefusedRequest}
use Rattle.messages.specs.declared.refusal.Reason.{Reason}
use Rattle.verify_state.specs.Laws.{ReadsBack}
use Rattle.messages.proofs.StateLemmas.{length-spelled_state}
use Rattle.messages.proofs.LayoutLemmas.{length-spelled, length-spelled_blocks, AreWide, wide8, wide32, wide64}

pub are_wide : (k : PacketKind) → AreWide (layout k)
are_wide kinds.Jobs = (wide64, tt)
are_wide kinds.JobsOk = (wide64, (wide32, tt))
are_wide kinds.Start = (wide64, tt)
are_wide kinds.Started = (wide64, tt)
are_wide kinds.Trigger = (wide64, (wide8, tt))
are_wide kinds.State = (wide32, tt)
are_wide kinds.NoState = (wide64, (wide32, (wide32, tt)))
are_wide kinds.StateAck = (wide64, (wide32, tt))
are_wide kinds.Stop = (wide64, tt)
are_wide kinds.Stopped = (wide64, tt)
are_wide kinds.Verify = (wide64, (wide64, tt))
are_wide kinds.WantState = (wide64, (wide64, (wide32, tt)))
are_wide kinds.Saved = (wide64, tt)
are_wide kinds.NoSaved = (wide64, (wide64, (wide32, tt)))
are_wide kinds.Report = (wide64, (wide64, (wide32, (wide32, (wide8, (wide32, (wide32, (wide32, (wide32, tt)))))))))
are_wide kinds.Refused = (wide8, (wide8, (wide32, (wide32, (wide64, (wide64, (wide64, tt)))))))
are_wide kinds.Copy = tt
are_wide kinds.CopyOk = (wide64, (wide32, (wide32, tt)))
are_wide kinds.Fetch = (wide64, tt)
are_wide kinds.Granted = (wide64, tt)

pub length-numbers_of : (b : Body) → length (numbers_of b) ≡ length (layout (kind_of b))
length-numbers_of (Jobs run text) = refl
length-numbers_of (JobsOk run jobs) = refl
length-numbers_of (Start run) = refl
length-numbers_of (Started run) = refl
length-numbers_of (Trigger run act) = refl
length-numbers_of (State jobs state) = refl
length-numbers_of (NoState run job jobs) = refl
length-numbers_of (StateAck run job) = refl
length-numbers_of (Stop run) = refl
length-numbers_of (Stopped run) = refl
length-numbers_of (Verify run attempt text) = refl
length-numbers_of (WantState run attempt job) = refl
length-numbers_of (Saved attempt state) = refl
length-numbers_of (NoSaved run attempt job) = refl
length-numbers_of (Report run attempt job jobs report) = refl
length-numbers_of (Refused r) = refl
length-numbers_of (Copy state) = refl
length-numbers_of (CopyOk run server job) = refl
length-numbers_of (Fetch generation) = refl
length-numbers_of (Granted generation) = refl

pub length-spelled_body : (b : Body) → length (spelled_body b) ≡ length_of b
length-spelled_body b =
    omega (
      arith,
      length-append (spelled (layout (kind_of b)) (numbers_of b)) (tail_of b),
      length-spelled (layout (kind_of b)) (numbers_of b) (length-numbers_of b),
    )

-- Nor than any body may have.
pub within_limit : (k : PacketKind) → length_limit k ≤ MAX_BODY
within_limit kinds.Jobs = omega arith
within_limit kinds.JobsOk = omega arith
within_limit kinds.Start = omega arith
within_limit kinds.Started = omega arith
within_limit kinds.Trigger = omega arith
within_limit kinds.State = omega arith
within_limit kinds.NoState = omega arith
within_limit kinds.StateAck = omega arith
within_limit kinds.Stop = omega arith
within_limit kinds.Stopped = omega arith
within_limit kinds.Verify = omega arith
within_limit kinds.WantState = omega arith
within_limit kinds.Saved = omega arith
within_limit kinds.NoSaved = omega arith
within_limit kinds.Report = omega arith
within_limit kinds.Refused = omega arith
within_limit kinds.Copy = omega arith
within_limit kinds.CopyOk = omega arith
within_limit kinds.Fetch = omega arith
within_limit kinds.Granted = omega arith

report_length : (r : ReportParts) → IsTrue (is_report r) → length r.first ≤ MAX_LISTED
report_length r h = grind (arith, nat_tests)

-- No body has more bytes than its kind allows.
pub length_of-limit : ReadsBack → (b : Body) → is_body b ≡ true → KeepsState b → length_of b ≤ length_limit (kind_of b)
length_of-limit law (Jobs run text) h keeps = omega (arith, leb-true (length text) MAX_TEXT (and_parts (is_run run) (is_text text) h).1)
length_of-limit law (JobsOk run jobs) h keeps = omega arith
length_of-limit law (Start run) h keeps = omega arith
length_of-limit law (Started run) h keeps = omega arith
length_of-limit law (Trigger run act) h keeps = omega arith
length_of-limit law (State jobs state) h keeps = omega (arith, length-spelled_state law state keeps)
length_of-limit law (NoState run job jobs) h keeps = omega arith
length_of-limit law (StateAck run job) h keeps = omega arith
length_of-limit law (Stop run) h keeps = omega arith
length_of-limit law (Stopped run) h keeps = omega arith
length_of-limit law (Verify run attempt text) h keeps =
    omega (arith, leb-true (length text) MAX_TEXT (and_parts (is_run run && is_attempt attempt) (is_text text) h).1)
length_of-limit law (WantState run attempt job) h keeps = omega arith
length_of-limit law (Saved attempt state) h keeps = omega (arith, length-spelled_state law state keeps)
length_of-limit law (NoSaved run attempt job) h keeps = omega arith
length_of-limit law (Report run attempt job jobs r) h keeps =
    omega (arith, length-spelled_blocks r.first, report_length r (and_parts (is_run run && is_attempt attempt && is_job_of job jobs) (is_report r) h).1)
length_of-limit law (Refused r) h keeps = omega arith
length_of-limit law (Copy state) h keeps = omega (arith, length-spelled_state law state keeps)
length_of-limit law (CopyOk run server job) h keeps = omega arith
length_of-limit law (Fetch generation) h keeps = omega arith
length_of-limit law (Granted generation) h keeps = omega arith

-- What was read as a whole body is in its ranges.
pub whole_some : (bytes : List ℕ) (o : Option Body) (b : Body) → whole bytes o ≡ Some b → (o ≡ Some b) × (is_whole bytes b ≡ true)
whole_some bytes None b e = absurd cc
whole_some bytes (Some x) b e = pick (is_whole bytes x) refl e
  where
    pick : (test : Bool) → is_whole bytes x ≡ test → (if test then Some x else None) ≡ Some b → (Some x ≡ Some b) × (is_whole bytes b ≡ true)
    pick true is same = (same, subst (λ (y : Body). is_whole bytes y ≡ true) (same_Some x b same) is)
    pick false is same = absurd cc

pub body_at-in_range : (k : PacketKind) (bytes : List ℕ) (b : Body) → body_at k bytes ≡ Some b → is_body b ≡ true
body_at-in_range k bytes b e =
    (and_parts (takes_all b (length bytes)) (is_body b) (whole_some bytes (body_of k (numbers (layout k) bytes) (drop (size (layout k)) bytes)) b e).1).1

-- The refusal that the numbers say, once its request and its reason are known.
abbrev pub refusal_in : List ℕ → RefusedRequest → Reason → Body
refusal_in bytes a r =
    let job = drop 1 (drop 1 bytes) in
    let run = drop 4 (drop 4 job) in
    Refused (record {
      asked = a;
      reason = r;
      job = number_in w32 job;
      jobs = number_in w32 (drop 4 job);
      run = number_in w64 run;
      attempt = number_in w64 (drop 8 run);
      value = number_in w64 (drop 8 (drop 8 run));
    })

pub refused_at : (bytes : List ℕ) (a : RefusedRequest) (r : Reason) → length bytes ≡ 34 → asked_numbered (number_in w8 bytes) ≡ Some a
    → reason_numbered (number_in w8 (drop 1 bytes)) ≡ Some r
    → body_at kinds.Refused bytes ≡ (if is_body (refusal_in bytes a r) then Some (refusal_in bytes a r) else None)
refused_at bytes a r len ea er = rw (ea, er, len) refl
