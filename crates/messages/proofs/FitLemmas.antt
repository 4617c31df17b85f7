-- A body in its ranges: its numbers fit their widths, and are read again.
use Rattle.std.proofs.Common.{◌≡◌, ℕ, ◌+◌, ◌<◌, true, ◌&&◌, Some, List, [], ◌∷◌, length, refl, arith}
use Rattle.std.specs.Prelude.{◌==◌, nat_le, nat_lt}
use Rattle.std.specs.List.{list_all}
use Rattle.std.specs.Int.{w32}
use Rattle.std.proofs.lemmas.Bool.{and_parts, ltb-true}
use Rattle.std.proofs.lemmas.Bool.Decides.{nat_tests}
use Rattle.std.proofs.lemmas.List.{drop_at}
use Rattle.fc_base.specs.declared.limits.TheConstants.{MAX_BLOCKS}
use Rattle.fc_base.specs.Ascending.{is_block}
use Rattle.fc_base.specs.declared.report.ReportParts.{ReportParts}
use Rattle.fc_base.specs.declared.report.ReportEnd.{ReportEnd}
use Rattle.fc_base.specs.declared.report.ReportEnd.TheVariants as ends
use Rattle.fc_base.specs.Report.{has_counts, has_list, has_end, is_report}
use Rattle.messages.specs.declared.body.Body.{Body}
use Rattle.messages.specs.declared.body.Body.TheVariants.{Jobs, JobsOk, Start, Started, Trigger, State, NoState, StateAck, Stop, Stopped}
use Rattle.messages.specs.declared.body.Body.TheVariants.{Verify, WantState, Saved, NoSaved, Report, Refused, Copy, CopyOk, Fetch, Granted}
use Rattle.messages.specs.declared.refusal.RefusedRequest.{RefusedRequest}
use Rattle.messages.specs.declared.refusal.RefusedRequest.TheVariants as asks
use Rattle.messages.specs.declared.refusal.Reason.{Reason}
use Rattle.messages.specs.declared.refusal.Reason.TheVariants as reasons
use Rattle.fc_base.specs.Layouts.{bytes_of, spelled_blocks, blocks_in}
use Rattle.messages.specs.Ranges.{is_word, is_run, is_attempt, is_jobs, is_job, is_job_of, is_server_no}
use Rattle.messages.specs.Ranges.{is_generation, is_text, is_job_refused, is_attempt_refused, is_body, KeepsState}
use Rattle.messages.specs.Bodies.{kind_of, layout, numbers_of, tail_of, spelled_body, length_of, takes_all, body_of, whole, body_at, end_at}
use Rattle.verify_state.specs.Laws.{ReadsBack}
use Rattle.messages.proofs.StateLemmas.{state_again}
use Rattle.messages.proofs.LayoutLemmas.{length-bytes_of, wide32, Fit, numbers-spelled, drop-spelled}
use Rattle.messages.proofs.ChoiceLemmas.{act_again, act_fits, asked_again, asked_fits, reason_again, reason_fits, end_again, end_fits}
use Rattle.messages.proofs.BodyLemmas.{are_wide, length-numbers_of, length-spelled_body}

run_fits : (n : ℕ) → is_run n ≡ true → n < 18446744073709551616
run_fits n h = ltb-true n 18446744073709551616 (and_parts (nat_le 1 n) (is_word n) h).1

attempt_fits : (n : ℕ) → is_attempt n ≡ true → n < 18446744073709551616
attempt_fits n h = ltb-true n 18446744073709551616 (and_parts (nat_le 1 n) (is_word n) h).1

jobs_fit : (n : ℕ) → is_jobs n ≡ true → n < 4294967296
jobs_fit n h = grind (arith, nat_tests)

job_fits : (n : ℕ) → is_job n ≡ true → n < 4294967296
job_fits n h = grind (arith, nat_tests)

server_fits : (n : ℕ) → is_server_no n ≡ true → n < 4294967296
server_fits n h = grind (arith, nat_tests)

generation_fits : (n : ℕ) → is_generation n ≡ true → n < 18446744073709551616
generation_fits n h = grind (arith, nat_tests)

job_of_fits : (job jobs : ℕ) → is_job_of job jobs ≡ true → (job < 4294967296) × (jobs < 4294967296)
job_of_fits job jobs h =
    let parts = and_parts (is_jobs jobs) (nat_lt job jobs) h in
    let many = jobs_fit jobs parts.0 in
    let below = ltb-true job jobs parts.1 in
    (omega arith, many)

zeros_fit : (job jobs : ℕ) → ((job == 0) && (jobs == 0)) ≡ true → (job < 4294967296) × (jobs < 4294967296)
zeros_fit job jobs h =
    let parts = and_parts (job == 0) (jobs == 0) h in
    let one = parts.0 in
    let two = parts.1 in
    (grind (arith, nat_tests), grind (arith, nat_tests))

job_refused_fits : (reason : Reason) (job jobs : ℕ) → is_job_refused reason job jobs ≡ true → (job < 4294967296) × (jobs < 4294967296)
job_refused_fits reasons.Old job jobs h = zeros_fit job jobs h
job_refused_fits reasons.Busy job jobs h = zeros_fit job jobs h
job_refused_fits reasons.NoJobs job jobs h = zeros_fit job jobs h
job_refused_fits reasons.Gone job jobs h = zeros_fit job jobs h
job_refused_fits reasons.Overwritten job jobs h = zeros_fit job jobs h
job_refused_fits reasons.Unknown job jobs h = zeros_fit job jobs h
job_refused_fits reasons.BadJobs job jobs h = zeros_fit job jobs h
job_refused_fits reasons.Misfit job jobs h = job_of_fits job jobs h

zero_fits : (n : ℕ) → (n == 0) ≡ true → n < 18446744073709551616
zero_fits n h = grind (arith, nat_tests)

attempt_refused_fits : (asked : RefusedRequest) (attempt : ℕ) → is_attempt_refused asked attempt ≡ true → attempt < 18446744073709551616
attempt_refused_fits asks.Jobs attempt h = zero_fits attempt h
attempt_refused_fits asks.Start attempt h = zero_fits attempt h
attempt_refused_fits asks.Trigger attempt h = zero_fits attempt h
attempt_refused_fits asks.Stop attempt h = zero_fits attempt h
attempt_refused_fits asks.Verify attempt h = attempt_fits attempt h

at_fits : (r : ReportParts) (end : ReportEnd) → has_end (record r { end = end }) ≡ true → end_at end < 4294967296
at_fits r ends.Whole h = omega arith
at_fits r ends.AtFault h = omega arith
at_fits r (ends.ReadFault b) h = grind (arith, nat_tests)

counts_fit : (r : ReportParts) → has_counts r ≡ true → (r.checked < 4294967296) × (r.faults < 4294967296)
counts_fit r h =
    let parts = and_parts (nat_le r.faults r.checked) (nat_le r.checked MAX_BLOCKS) h in
    let one = parts.0 in
    let two = parts.1 in
    (grind (arith, nat_tests), grind (arith, nat_tests))

list_fits : (r : ReportParts) → has_list r ≡ true → length r.first < 4294967296
list_fits r h = grind (arith, nat_tests)

-- The numbers of a body fit their widths.
fit_of : (b : Body) → is_body b ≡ true → Fit (layout (kind_of b)) (numbers_of b)
fit_of (Jobs run text) h = (run_fits run (and_parts (is_run run) (is_text text) h).0, tt)
fit_of (JobsOk run jobs) h =
    let parts = and_parts (is_run run) (is_jobs jobs) h in
    (run_fits run parts.0, (jobs_fit jobs parts.1, tt))
fit_of (Start run) h = (run_fits run h, tt)
fit_of (Started run) h = (run_fits run h, tt)
fit_of (Trigger run act) h = (run_fits run h, (act_fits act, tt))
fit_of (State jobs state) h = (jobs_fit jobs (and_parts (is_jobs jobs) (nat_lt state.key.job jobs) h).0, tt)
fit_of (NoState run job jobs) h =
    let parts = and_parts (is_run run) (is_job_of job jobs) h in
    let numbers = job_of_fits job jobs parts.1 in
    (run_fits run parts.0, (numbers.0, (numbers.1, tt)))
fit_of (StateAck run job) h =
    let parts = and_parts (is_run run) (is_job job) h in
    (run_fits run parts.0, (job_fits job parts.1, tt))
fit_of (Stop run) h = (run_fits run h, tt)
fit_of (Stopped run) h = (run_fits run h, tt)
fit_of (Verify run attempt text) h =
    let parts = and_parts (is_run run) (is_attempt attempt) (and_parts (is_run run && is_attempt attempt) (is_text text) h).0 in
    (run_fits run parts.0, (attempt_fits attempt parts.1, tt))
fit_of (WantState run attempt job) h =
    let last = and_parts (is_run run && is_attempt attempt) (is_job job) h in
    let parts = and_parts (is_run run) (is_attempt attempt) last.0 in
    (run_fits run parts.0, (attempt_fits attempt parts.1, (job_fits job last.1, tt)))
fit_of (Saved attempt state) h = (attempt_fits attempt h, tt)
fit_of (NoSaved run attempt job) h =
    let last = and_parts (is_run run && is_attempt attempt) (is_job job) h in
    let parts = and_parts (is_run run) (is_attempt attempt) last.0 in
    (run_fits run parts.0, (attempt_fits attempt parts.1, (job_fits job last.1, tt)))
fit_of (Report run attempt job jobs r) h =
    let last = and_parts (is_run run && is_attempt attempt && is_job_of job jobs) (is_report r) h in
    let names = and_parts (is_run run && is_attempt attempt) (is_job_of job jobs) last.0 in
    let parts = and_parts (is_run run) (is_attempt attempt) names.0 in
    let numbers = job_of_fits job jobs names.1 in
    let found = and_parts (has_counts r && has_list r) (has_end r) last.1 in
    let lists = and_parts (has_counts r) (has_list r) found.0 in
    let counts = counts_fit r lists.0 in (
      run_fits run parts.0,
      (
        attempt_fits attempt parts.1,
        (numbers.0, (numbers.1, (end_fits r.end, (at_fits r r.end found.1, (counts.0, (counts.1, (list_fits r lists.1, tt))))))),
      ),
    )
fit_of (Refused r) h =
    let last = and_parts (is_run r.run && is_word r.value && is_job_refused r.reason r.job r.jobs) (is_attempt_refused r.asked r.attempt) h in
    let named = and_parts (is_run r.run && is_word r.value) (is_job_refused r.reason r.job r.jobs) last.0 in
    let parts = and_parts (is_run r.run) (is_word r.value) named.0 in
    let numbers = job_refused_fits r.reason r.job r.jobs named.1 in (
      asked_fits r.asked,
      (
        reason_fits r.reason,
        (
          numbers.0,
          (numbers.1, (run_fits r.run parts.0, (attempt_refused_fits r.asked r.attempt last.1, (ltb-true r.value 18446744073709551616 parts.1, tt)))),
        ),
      ),
    )
fit_of (Copy state) h = tt
fit_of (CopyOk run server job) h =
    let last = and_parts (is_run run && is_server_no server) (is_job job) h in
    let parts = and_parts (is_run run) (is_server_no server) last.0 in
    (run_fits run parts.0, (server_fits server parts.1, (job_fits job last.1, tt)))
fit_of (Fetch generation) h = (generation_fits generation h, tt)
fit_of (Granted generation) h = (generation_fits generation h, tt)

blocks_again : (bs : List ℕ) → list_all is_block bs ≡ true → blocks_in (length bs) (spelled_blocks bs) ≡ bs
blocks_again [] h = refl
blocks_again (b ∷ bs) h =
    let parts = and_parts (is_block b) (list_all is_block bs) h in
    let below = ltb-true b MAX_BLOCKS parts.0 in
    let one = wide32.again b (spelled_blocks bs) (omega arith) in
    let behind = drop_at (bytes_of w32 b) (spelled_blocks bs) 4 (length-bytes_of w32 b) in
    rw (one, behind, blocks_again bs parts.1) refl

-- The numbers and the tail of a body say that body.
body_of-again : ReadsBack → (b : Body) → is_body b ≡ true → KeepsState b → body_of (kind_of b) (numbers_of b) (tail_of b) ≡ Some b
body_of-again law (Jobs run text) h keeps = refl
body_of-again law (JobsOk run jobs) h keeps = refl
body_of-again law (Start run) h keeps = refl
body_of-again law (Started run) h keeps = refl
body_of-again law (Trigger run act) h keeps = rw (act_again act) refl
body_of-again law (State jobs state) h keeps = rw (state_again law state keeps) refl
body_of-again law (NoState run job jobs) h keeps = refl
body_of-again law (StateAck run job) h keeps = refl
body_of-again law (Stop run) h keeps = refl
body_of-again law (Stopped run) h keeps = refl
body_of-again law (Verify run attempt text) h keeps = refl
body_of-again law (WantState run attempt job) h keeps = refl
body_of-again law (Saved attempt state) h keeps = rw (state_again law state keeps) refl
body_of-again law (NoSaved run attempt job) h keeps = refl
body_of-again law (Report run attempt job jobs r) h keeps =
    let last = and_parts (is_run run && is_attempt attempt && is_job_of job jobs) (is_report r) h in
    let found = and_parts (has_counts r && has_list r) (has_end r) last.1 in
    let lists = and_parts (has_counts r) (has_list r) found.0 in
    rw (blocks_again r.first (blocks_of_list r lists.1), end_again r.end) refl
  where
    blocks_of_list : (x : ReportParts) → has_list x ≡ true → list_all is_block x.first ≡ true
    blocks_of_list x e = grind (arith, nat_tests)
body_of-again law (Refused r) h keeps = rw (asked_again r.asked, reason_again r.reason) refl
body_of-again law (Copy state) h keeps = rw (state_again law state keeps) refl
body_of-again law (CopyOk run server job) h keeps = refl
body_of-again law (Fetch generation) h keeps = refl
body_of-again law (Granted generation) h keeps = refl

same_length : (n : ℕ) → (n == n) ≡ true
same_length n = grind (arith, nat_tests)

at_least : (n m : ℕ) → nat_le n (n + m) ≡ true
at_least n m = grind (arith, nat_tests)

-- A body takes as many bytes as it has.
takes_its_own : (b : Body) → takes_all b (length_of b) ≡ true
takes_its_own (Jobs run text) = same_length (length_of (Jobs run text))
takes_its_own (JobsOk run jobs) = refl
takes_its_own (Start run) = refl
takes_its_own (Started run) = refl
takes_its_own (Trigger run act) = refl
takes_its_own (State jobs state) = at_least 4 (length (tail_of (State jobs state)))
takes_its_own (NoState run job jobs) = refl
takes_its_own (StateAck run job) = refl
takes_its_own (Stop run) = refl
takes_its_own (Stopped run) = refl
takes_its_own (Verify run attempt text) = same_length (length_of (Verify run attempt text))
takes_its_own (WantState run attempt job) = refl
takes_its_own (Saved attempt state) = at_least 8 (length (tail_of (Saved attempt state)))
takes_its_own (NoSaved run attempt job) = refl
takes_its_own (Report run attempt job jobs r) = same_length (length_of (Report run attempt job jobs r))
takes_its_own (Refused r) = refl
takes_its_own (Copy state) = refl
takes_its_own (CopyOk run server job) = refl
takes_its_own (Fetch generation) = refl
takes_its_own (Granted generation) = refl

-- A body in its ranges is read from its bytes.
pub body_at-spelled : ReadsBack → (b : Body) → is_body b ≡ true → KeepsState b → body_at (kind_of b) (spelled_body b) ≡ Some b
body_at-spelled law b h keeps =
    let k = kind_of b in
    let front = numbers-spelled (layout k) (numbers_of b) (tail_of b) (are_wide k) (fit_of b h) in
    let behind = drop-spelled (layout k) (numbers_of b) (tail_of b) (length-numbers_of b) in
    let len = length-spelled_body b in
    rw (front, behind, body_of-again law b h keeps) (kept (spelled_body b) len)
  where
    kept : (bytes : List ℕ) → length bytes ≡ length_of b → whole bytes (Some b) ≡ Some b
    kept bytes len = rw (len, takes_its_own b, h) refl
