-- A server sends at most 16 packets in answer to one input.
use Rattle.std.proofs.Common.{◌≡◌, refl, sym, ap, subst, ℕ, suc, ◌+◌, arith, Bool, true, false, ◌==◌, List, [], ◌∷◌, length, Option, None, Some, ◌≤◌}
use Rattle.std.specs.Prelude.{if◌then◌else◌, nat_lt, nat_le, slice_get, Result, Ok, Err, ◌||◌}
use Rattle.fc_base.specs.declared.fault.Fault.{Fault}
use Rattle.fc_base.specs.declared.report.ReportParts.{ReportParts}
use Rattle.job_file.specs.declared.job.Job.{Job}
use Rattle.job_file.specs.declared.job.Phase.TheVariants.{Read, Write}
use Rattle.verify_state.specs.State.{State as SavedState}
use Rattle.messages.specs.declared.body.Body.{Body}
use Rattle.messages.specs.declared.refusal.RefusedRequest.{RefusedRequest}
use Rattle.messages.specs.declared.refusal.RefusedRequest.TheVariants as asks
use Rattle.disk_model.specs.SaveOutcome.{is_lost}
use Rattle.server_core.specs.History.{Opening, Entry, Met, Cut, Restart}
use Rattle.server_core.specs.Request.{Request, ToStage, ToStart, ToTrigger, ToMark, ToStop, ToVerify}
use Rattle.server_core.specs.Request.{ToHold, ToPassFully, ToIssue, ToEnd, ToReport, ToNobody, request_of}
use Rattle.server_core.specs.Texts.{jobs_for}
use Rattle.server_core.specs.Run.{Work, Halt, Triggered, Stopped, halt_of, is_open, is_unended}
use Rattle.server_core.specs.Words.{Staged, for_run}
use Rattle.server_core.specs.Check.{Check, Progress, Wanting, Full, With, Refused, Done, progress_after, progress_by}
use Rattle.server_core.specs.Replies.{Now, number_staged, reply_to_text, reply_to_new_jobs, present, reply_to_new_start, reply_to_start, gone_or_unknown}
use Rattle.server_core.specs.Replies.{state_frames, reply_to_halt, reply_to_trigger, reply_to_stop, progress_frame, check_frames_from, reply_to_check_text}
use Rattle.server_core.specs.Replies.{reply_to_new_check, reply_to_attempt, misfit_frame, reply_to_state_for, reply_to_state, reply_to_report, replies}
use Rattle.server_core.specs.Answers.{now, refusal, to_client, sent_by, packets}
use Rattle.std.proofs.lemmas.List.{length-append}
use Rattle.fc_base.specs.declared.limits.TheConstants.{MAX_JOBS}
use Rattle.server_core.specs.Replies.{check_frames}
use Rattle.server_core.specs.Words.{work}
use Rattle.server_core.specs.Check.{check}
use Rattle.server_core.specs.Laws.{TextsGiveSets, RunsHaveSets, ChecksHaveSets}

abbrev IsFew : List Job → Type 0
IsFew js = length js ≤ MAX_JOBS

abbrev WorkFew : Option Work → Type 0
WorkFew None = Unit {0}
WorkFew (Some w) = IsFew w.jobs

abbrev CheckFew : Option Check → Type 0
CheckFew None = Unit {0}
CheckFew (Some c) = IsFew c.jobs

run_few : RunsHaveSets → (o : Opening) (past : List Entry) (x : Option Work) → work o past ≡ x → WorkFew x
run_few runs o past None is = tt
run_few runs o past (Some w) is = (runs o past w is).within.few

check_jobs_few : ChecksHaveSets → (o : Opening) (past : List Entry) (x : Option Check) → check o past ≡ x → CheckFew x
check_jobs_few checks o past None is = tt
check_jobs_few checks o past (Some c) is = (checks o past c is).within.few

abbrev Few : List Body → Type 0
Few bs = length bs ≤ MAX_JOBS

one : 1 ≤ MAX_JOBS
one = omega arith

none : 0 ≤ MAX_JOBS
none = omega arith

few_if : (b : Bool) (xs ys : List Body) → Few xs → Few ys → Few (if b then xs else ys)
few_if true xs ys h k = h
few_if false xs ys h k = k

text_few : (r : ℕ) (t : Result (List Job) ℕ) → Few (reply_to_text r t)
text_few r (Ok jobs) = one
text_few r (Err value) = one

new_jobs_few : (r : ℕ) (s : Option Staged) (busy : Bool) (t : Result (List Job) ℕ) → Few (reply_to_new_jobs r s busy t)
new_jobs_few r (Some s) busy t = one
new_jobs_few r None busy t = few_if busy _ _ one (text_few r t)

new_start_few : (r : ℕ) (s : Option Staged) (busy : Bool) → Few (reply_to_new_start r s busy)
new_start_few r None busy = one
new_start_few r (Some s) busy = few_if busy _ _ one one

start_few : (n : Now) (r : ℕ) (w : Option Work) → Few (reply_to_start n r w)
start_few n r (Some w) = one
start_few n r None = few_if (nat_le r n.last) _ _ one (new_start_few r (for_run r n.staged) (is_open n.run))

gone_few : (a : RefusedRequest) (r last : ℕ) → Few (gone_or_unknown a r last)
gone_few a r last = few_if (nat_le r last) _ _ one one

stop_few : (n : Now) (r : ℕ) (w : Option Work) → Few (reply_to_stop n r w)
stop_few n r (Some w) = one
stop_few n r None = gone_few asks.Stop r n.last

states_length : (w : Work) (before : List Request) (j : ℕ) (jobs : List Job) → length (state_frames w before j jobs) ≡ length jobs
states_length w before j [] = refl
states_length w before j (job ∷ jobs) = ap suc (states_length w before (j + 1) jobs)

states_few : (w : Work) (before : List Request) → IsFew w.jobs → Few (state_frames w before 0 w.jobs)
states_few w before h = let e = states_length w before 0 w.jobs in omega arith

halt_few : (w : Work) (last : ℕ) (halt : Option Halt) → IsFew w.jobs → Few (reply_to_halt w last halt)
halt_few w last None h = states_few w w.since h
halt_few w last (Some (Triggered act before)) h = states_few w before h
halt_few w last (Some Stopped) h = one

present_few : (r : ℕ) (t : Bool) (n : Now) (w : Work) → IsFew w.jobs → Few (reply_to_trigger n r (if t then Some w else None))
present_few r true n w h = halt_few w n.last (halt_of w.run w.since) h
present_few r false n w h = gone_few asks.Trigger r n.last

trigger_few : (n : Now) (r : ℕ) (w : Option Work) → WorkFew w → Few (reply_to_trigger n r (present r w))
trigger_few n r None h = gone_few asks.Trigger r n.last
trigger_few n r (Some w) h = present_few r (w.run == r) n w h

progress_one : (c : Check) (j : ℕ) (p : Progress) → length (progress_frame c j p) ≤ 1
progress_one c j Wanting = omega arith
progress_one c j Full = omega arith
progress_one c j (With s) = omega arith
progress_one c j (Refused value) = omega arith
progress_one c j (Done report) = omega arith

checks_length : (c : Check) (j : ℕ) (jobs : List Job) → length (check_frames_from c j jobs) ≤ length jobs
checks_length c j [] = omega arith
checks_length c j (job ∷ jobs) =
    let p = progress_after c j job c.since in
    let a = progress_one c j p in
    let b = checks_length c (j + 1) jobs in
    let e = length-append (progress_frame c j p) (check_frames_from c (j + 1) jobs) in
    omega arith

checks_few : (c : Check) → IsFew c.jobs → Few (check_frames c)
checks_few c h = let a = checks_length c 0 c.jobs in omega arith

check_text_few : (n : Now) (r a : ℕ) (t : Result (List Job) ℕ) → ((js : List Job) → t ≡ Ok js → IsFew js) → Few (reply_to_check_text n r a t)
check_text_few n r a (Ok js) f = checks_few (record { server = n.server; boot = n.boot; run = r; attempt = a; jobs = js; since = [] }) (f js refl)
check_text_few n r a (Err value) f = one

new_check_few : TextsGiveSets → (n : Now) (r a : ℕ) (text : List ℕ) → Few (reply_to_new_check n r a text)
new_check_few texts n r a text =
    few_if (is_open n.run || is_unended n.run) _ _ one (check_text_few n r a (jobs_for Read text) (λ js e. (texts Read text js e).within.few))

attempt_few : TextsGiveSets → (n : Now) (r a : ℕ) (text : List ℕ) (c : Option Check) → CheckFew c → Few (reply_to_attempt n r a text c)
attempt_few texts n r a text None h = new_check_few texts n r a text
attempt_few texts n r a text (Some c) h = few_if (nat_lt a c.attempt) _ _ one (few_if (c.attempt == a) _ _ (checks_few c h) (new_check_few texts n r a text))

misfit_few : (c : Check) (j : ℕ) (p q : Progress) → Few (misfit_frame c j p q)
misfit_few c j Wanting Wanting = none
misfit_few c j Wanting Full = none
misfit_few c j Wanting (With s) = none
misfit_few c j Wanting (Refused value) = one
misfit_few c j Wanting (Done report) = none
misfit_few c j Full q = none
misfit_few c j (With s) q = none
misfit_few c j (Refused value) q = none
misfit_few c j (Done report) q = none

state_for_few : (c : Check) (a : ℕ) (s : SavedState) (job : Option Job) → Few (reply_to_state_for c a s job)
state_for_few c a s None = none
state_for_few c a s (Some job) =
    misfit_few c s.key.job (progress_after c s.key.job job c.since) (progress_by c s.key.job job (ToHold a s) (progress_after c s.key.job job c.since))

hold_few : (a : ℕ) (s : SavedState) (c : Option Check) → Few (reply_to_state a s c)
hold_few a s None = none
hold_few a s (Some c) = state_for_few c a s (slice_get c.jobs s.key.job)

report_few : (j : ℕ) (r : ReportParts) (c : Option Check) → Few (reply_to_report j r c)
report_few j r None = none
report_few j r (Some c) = one

replies_few : TextsGiveSets → (n : Now) (x : Request) → WorkFew n.run → CheckFew n.check → Few (replies n x)
replies_few texts n (ToStage r text) w c =
    few_if (nat_le r n.last || nat_lt r (number_staged n.staged)) _ _ one (new_jobs_few r (for_run r n.staged) (is_open n.run) (jobs_for Write text))
replies_few texts n (ToStart r) w c = start_few n r (present r n.run)
replies_few texts n (ToTrigger r act) w c = trigger_few n r n.run w
replies_few texts n (ToMark r j) w c = none
replies_few texts n (ToStop r) w c = stop_few n r (present r n.run)
replies_few texts n (ToVerify r a text) w c =
    few_if (nat_lt n.last r) _ _ one (few_if (nat_lt r n.last) _ _ one (attempt_few texts n r a text n.check c))
replies_few texts n (ToHold a state) w c = hold_few a state n.check
replies_few texts n (ToPassFully a j) w c = none
replies_few texts n (ToIssue j) w c = none
replies_few texts n (ToEnd ticket end) w c = none
replies_few texts n (ToReport b a j report) w c = report_few j report n.check
replies_few texts n ToNobody w c = none

sent_few : (lost : Bool) (f : Option Fault) (bs : List Body) → Few bs → Few (sent_by lost f bs)
sent_few true None bs h = none
sent_few false None bs h = h
sent_few lost (Some f) bs h = none

mapped : (me : ℕ) (bs : List Body) → length (to_client me bs) ≡ length bs
mapped me [] = refl
mapped me (b ∷ bs) = ap suc (mapped me bs)

pub packets_few : TextsGiveSets → RunsHaveSets → ChecksHaveSets → (o : Opening) (past : List Entry) (e : Entry) → length (packets o past e) ≤ MAX_JOBS
packets_few texts runs checks o past (Met e left) =
    let bs = sent_by (is_lost left) (refusal o past e) (replies (now o past) (request_of o.me e)) in
    let h = sent_few (is_lost left) (refusal o past e) (replies (now o past) (request_of o.me e))
    (replies_few texts (now o past) (request_of o.me e) (run_few runs o past (work o past) refl) (check_jobs_few checks o past (check o past) refl)) in
    subst (λ n. n ≤ MAX_JOBS) (sym (mapped o.me bs)) h
packets_few texts runs checks o past Cut = omega arith
packets_few texts runs checks o past (Restart left) = omega arith
