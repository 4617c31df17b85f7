-- What is replied to Verify, Saved and reports is in its ranges.
use Rattle.std.proofs.Common.{◌≡◌, refl, ℕ, zero, suc, ◌+◌, ◌<◌, arith, Bool, true, false, ◌&&◌, ◌==◌, List, [], ◌∷◌, length, Option, None, Some}
use Rattle.std.specs.Prelude.{if◌then◌else◌, ◌||◌, nat_lt, slice_get, Result, Ok, Err}
use Rattle.std.specs.List.{AllByRecursion}
use Rattle.std.proofs.lemmas.Bool.{and_parts, and_from, lt-ltb}
use Rattle.fc_base.specs.declared.limits.TheConstants.{MAX_JOBS}
use Rattle.fc_base.specs.declared.fault.Fault.{Fault}
use Rattle.fc_base.specs.declared.report.ReportParts.{ReportParts}
use Rattle.fc_base.specs.Report.{is_report}
use Rattle.job_file.specs.declared.job.Job.{Job}
use Rattle.job_file.specs.declared.job.Phase.TheVariants.{Read}
use Rattle.verify_state.specs.State.{State as SavedState}
use Rattle.messages.specs.declared.refusal.RefusedRequest.TheVariants as asks
use Rattle.messages.specs.declared.refusal.Reason.TheVariants as reasons
use Rattle.messages.specs.Ranges.{is_word, is_run, is_attempt}
use Rattle.server_core.specs.Request.{Request, ToStage, ToStart, ToTrigger, ToMark, ToStop, ToVerify, ToHold, ToPassFully, ToIssue, ToEnd, ToReport, ToNobody}
use Rattle.server_core.specs.Texts.{jobs_for}
use Rattle.server_core.specs.Run.{is_open, is_unended}
use Rattle.verify_state.specs.Misfit.{misfit}
use Rattle.server_core.specs.Check.{Check, Progress, Wanting, Full, With, Refused, Done, progress_with_state, progress_without_state}
use Rattle.server_core.specs.Check.{progress_with_report, progress_at_first, progress_after, progress_by, progress_at, progress_in}
use Rattle.server_core.specs.Replies.{Now, progress_frame, check_frames_from, check_frames, reply_to_check_text, reply_to_new_check}
use Rattle.server_core.specs.Replies.{reply_to_attempt, misfit_frame, reply_to_state_for, reply_to_state, reply_to_report}
use Rattle.server_core.specs.Answers.{is_ready, is_open_attempt as is_attempt_of, refused_by}
use Rattle.server_core.proofs.RangeLemmas.{fault_word, TextFits, text_fits, RequestFits}
use Rattle.fc_base.proofs.ListLemmas.{all_append}
use Rattle.server_core.proofs.BodyLemmas.{Below, CheckInRange, SomeCheck, BodyFits, Fit, fit_if, run_word, one_of, job_number, refuse_fits}

abbrev ProgressFits : Progress → Type 0
ProgressFits Wanting = Unit {0}
ProgressFits Full = Unit {0}
ProgressFits (With s) = Unit {0}
ProgressFits (Refused value) = is_word value ≡ true
ProgressFits (Done report) = is_report report ≡ true

progress_if : (t : Bool) (p q : Progress) → ProgressFits p → ProgressFits q → ProgressFits (if t then p else q)
progress_if true p q h k = h
progress_if false p q h k = k

held_fits : (m : Option Fault) (state : SavedState) (p : Progress) → ProgressFits p → ProgressFits (progress_with_state m state p)
held_fits None state Wanting h = tt
held_fits (Some fault) state Wanting h = fault_word fault
held_fits m state Full h = tt
held_fits m state (With s) h = tt
held_fits m state (Refused value) h = h
held_fits m state (Done report) h = h

passed_fits : (p : Progress) → ProgressFits p → ProgressFits (progress_without_state p)
passed_fits Wanting h = tt
passed_fits Full h = tt
passed_fits (With s) h = tt
passed_fits (Refused value) h = h
passed_fits (Done report) h = h

reported_fits : (r : ReportParts) (p : Progress) → is_report r ≡ true → ProgressFits p → ProgressFits (progress_with_report r p)
reported_fits r Wanting k h = tt
reported_fits r Full k h = k
reported_fits r (With s) k h = k
reported_fits r (Refused value) k h = h
reported_fits r (Done report) k h = h

step_fits : (c : Check) (i : ℕ) (job : Job) (x : Request) (p : Progress) → RequestFits x → ProgressFits p → ProgressFits (progress_by c i job x p)
step_fits c i job (ToHold a state) p r h =
    progress_if ((a == c.attempt) && (state.key.job == i))
    (progress_with_state (misfit state (record { run = c.run; server = c.server; job = i }) job.rec) state p) p
    (held_fits (misfit state (record { run = c.run; server = c.server; job = i }) job.rec) state p h) h
step_fits c i job (ToPassFully a j) p r h = progress_if ((a == c.attempt) && (j == i)) (progress_without_state p) p (passed_fits p h) h
step_fits c i job (ToReport b a j report) p r h =
    progress_if ((b == c.boot) && ((a == c.attempt) && (j == i))) (progress_with_report report p) p (reported_fits report p r h) h
step_fits c i job (ToStage u text) p r h = h
step_fits c i job (ToStart u) p r h = h
step_fits c i job (ToTrigger u act) p r h = h
step_fits c i job (ToMark u j) p r h = h
step_fits c i job (ToStop u) p r h = h
step_fits c i job (ToVerify u a text) p r h = h
step_fits c i job (ToIssue j) p r h = h
step_fits c i job (ToEnd ticket end) p r h = h
step_fits c i job ToNobody p r h = h

begun_fits : (load : Bool) → ProgressFits (progress_at_first load)
begun_fits true = tt
begun_fits false = tt

progress_fits : (c : Check) (j : ℕ) (job : Job) (since : List Request) → AllByRecursion RequestFits since → ProgressFits (progress_after c j job since)
progress_fits c j job [] h = begun_fits job.load
progress_fits c j job (x ∷ since) h = step_fits c j job x (progress_after c j job since) h.0 (progress_fits c j job since h.1)

one_check : (c : Check) (j : ℕ) (p : Progress) → CheckInRange c → j < length c.jobs → ProgressFits p → Fit (progress_frame c j p)
one_check c j Wanting k l h = ((and_from _ _ (and_from _ _ k.run k.attempt) (lt-ltb j MAX_JOBS (job_number c.jobs j k.jobs l)), tt), tt)
one_check c j Full k l h = tt
one_check c j (With s) k l h = tt
one_check c j (Refused value) k l h = ((and_from _ _ (and_from _ _ (and_from _ _ k.run h) (one_of c.jobs j k.jobs l)) k.attempt, tt), tt)
one_check c j (Done report) k l h = ((and_from _ _ (and_from _ _ (and_from _ _ k.run k.attempt) (one_of c.jobs j k.jobs l)) h, tt), tt)

checks_fit : (c : Check) (j : ℕ) (jobs : List Job) → CheckInRange c → j + length jobs ≡ length c.jobs → Fit (check_frames_from c j jobs)
checks_fit c j [] k e = tt
checks_fit c j (job ∷ jobs) k e =
    all_append BodyFits (progress_frame c j (progress_after c j job c.since)) (check_frames_from c (j + 1) jobs)
    (one_check c j (progress_after c j job c.since) k (omega arith) (progress_fits c j job c.since k.since)) (checks_fit c (j + 1) jobs k (omega arith))

all_checks : (c : Check) → CheckInRange c → Fit (check_frames c)
all_checks c k = checks_fit c 0 c.jobs k (omega arith)

check_text_reply : (n : Now) (r a : ℕ) (t : Result (List Job) ℕ) → is_run r ≡ true → is_attempt a ≡ true → TextFits t → Fit (reply_to_check_text n r a t)
check_text_reply n r a (Ok js) h k f = all_checks (record { server = n.server; boot = n.boot; run = r; attempt = a; jobs = js; since = [] })
    (record { run = h; attempt = k; jobs = f; since = tt })
check_text_reply n r a (Err value) h k f = refuse_fits asks.Verify reasons.BadJobs r a value h f refl k

new_check_reply : Below → (n : Now) (r a : ℕ) (text : List ℕ) → is_run r ≡ true → is_attempt a ≡ true → Fit (reply_to_new_check n r a text)
new_check_reply below n r a text h k =
    fit_if (is_open n.run || is_unended n.run) _ _ (refuse_fits asks.Verify reasons.Busy r a 0 h refl refl k)
    (check_text_reply n r a (jobs_for Read text) h k (text_fits below.texts Read text))

pub attempt_reply : Below → (n : Now) (r a : ℕ) (text : List ℕ) (c : Option Check) → is_run r ≡ true → is_attempt a ≡ true → SomeCheck c
    → Fit (reply_to_attempt n r a text c)
attempt_reply below n r a text None h k f = new_check_reply below n r a text h k
attempt_reply below n r a text (Some c) h k f =
    fit_if (nat_lt a c.attempt) _ _ (refuse_fits asks.Verify reasons.Old r a c.attempt h (run_word c.attempt f.attempt) refl k)
    (fit_if (c.attempt == a) _ _ (all_checks c f) (new_check_reply below n r a text h k))

misfit_reply : (c : Check) (j : ℕ) (p q : Progress) → CheckInRange c → j < length c.jobs → ProgressFits q → Fit (misfit_frame c j p q)
misfit_reply c j Wanting Wanting k l h = tt
misfit_reply c j Wanting Full k l h = tt
misfit_reply c j Wanting (With s) k l h = tt
misfit_reply c j Wanting (Refused value) k l h = one_check c j (Refused value) k l h
misfit_reply c j Wanting (Done report) k l h = tt
misfit_reply c j Full q k l h = tt
misfit_reply c j (With s) q k l h = tt
misfit_reply c j (Refused value) q k l h = tt
misfit_reply c j (Done report) q k l h = tt

is_below : (jobs : List Job) (j : ℕ) (job : Job) → slice_get jobs j ≡ Some job → j < length jobs
is_below [] j job h = cc
is_below (first ∷ jobs) zero job h = omega arith
is_below (first ∷ jobs) (suc j) job h = let l = is_below jobs j job h in omega arith

state_for_reply : (c : Check) (a : ℕ) (s : SavedState) (found : Option Job) → slice_get c.jobs s.key.job ≡ found → CheckInRange c
    → Fit (reply_to_state_for c a s found)
state_for_reply c a s None e k = tt
state_for_reply c a s (Some job) e k =
    let j = s.key.job in
    let p = progress_after c j job c.since in
    misfit_reply c j p (progress_by c j job (ToHold a s) p) k (is_below c.jobs j job e)
    (step_fits c j job (ToHold a s) p tt (progress_fits c j job c.since k.since))

pub state_reply : (a : ℕ) (s : SavedState) (c : Option Check) → SomeCheck c → Fit (reply_to_state a s c)
state_reply a s None k = tt
state_reply a s (Some c) k = state_for_reply c a s (slice_get c.jobs s.key.job) refl k

pub there_is : (s t : Bool) → refused_by s t ≡ None → t ≡ true
there_is true true h = refl
there_is true false h = cc
there_is false t h = cc

ready_below : (c : Check) (j : ℕ) (found : Option Job) → slice_get c.jobs j ≡ found → is_ready (progress_at c j found) ≡ true → j < length c.jobs
ready_below c j None e h = cc
ready_below c j (Some job) e h = is_below c.jobs j job e

pub report_reply : (a j : ℕ) (report : ReportParts) (c : Option Check) → (is_attempt_of a c && is_ready (progress_in c j)) ≡ true → is_report report ≡ true
    → SomeCheck c → Fit (reply_to_report j report c)
report_reply a j report None t h k = tt
report_reply a j report (Some c) t h k =
    one_check c j (Done report) k (ready_below c j (slice_get c.jobs j) refl (and_parts (is_attempt_of a (Some c)) (is_ready (progress_in (Some c) j)) t).1) h
