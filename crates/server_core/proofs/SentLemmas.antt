-- A server sends packets of the kinds that servers send, to the client.
use Rattle.std.proofs.Common.{refl, ℕ, ◌+◌, Bool, true, false, ◌==◌, List, [], ◌∷◌, length, Option, None, Some}
use Rattle.std.specs.List.{AllByRecursion}
use Rattle.std.proofs.lemmas.List.Elements.{All-contains, All-from_recursion}
use Rattle.std.specs.Prelude.{if◌then◌else◌, nat_lt, nat_le, slice_get, Result, Ok, Err, IsTrue, ◌||◌}
use Rattle.fc_base.specs.declared.fault.Fault.{Fault}
use Rattle.fc_base.specs.declared.report.ReportParts.{ReportParts}
use Rattle.job_file.specs.declared.job.Job.{Job}
use Rattle.job_file.specs.declared.job.Phase.TheVariants.{Read, Write}
use Rattle.verify_state.specs.State.{State as SavedState}
use Rattle.messages.specs.declared.body.Body.{Body}
use Rattle.messages.specs.declared.body.Body.TheVariants as bodies
use Rattle.messages.specs.declared.refusal.RefusedRequest.{RefusedRequest}
use Rattle.messages.specs.declared.refusal.RefusedRequest.TheVariants as asks
use Rattle.disk_model.specs.SaveOutcome.{is_lost}
use Rattle.server_core.specs.History.{Opening, Entry, Met, Cut, Restart}
use Rattle.server_core.specs.Request.{Request, ToStage, ToStart, ToTrigger, ToMark, ToStop, ToVerify}
use Rattle.server_core.specs.Request.{ToHold, ToPassFully, ToIssue, ToEnd, ToReport, ToNobody, request_of}
use Rattle.server_core.specs.Texts.{jobs_for}
use Rattle.server_core.specs.Run.{Work, Halt, Triggered, Stopped, halt_of, origin_of, is_open, is_unended}
use Rattle.server_core.specs.Words.{Staged, for_run}
use Rattle.server_core.specs.Taken.{job_state}
use Rattle.server_core.specs.Check.{Check, Progress, Wanting, Full, With, Refused, Done, progress_after, progress_by}
use Rattle.server_core.specs.Replies.{Now, number_staged, reply_to_text, reply_to_new_jobs, present, reply_to_new_start, reply_to_start, gone_or_unknown}
use Rattle.server_core.specs.Replies.{state_frames, reply_to_halt, reply_to_trigger, reply_to_stop, progress_frame, check_frames_from, reply_to_check_text}
use Rattle.server_core.specs.Replies.{reply_to_new_check, reply_to_attempt, misfit_frame, reply_to_state_for, reply_to_state, reply_to_report, replies}
use Rattle.server_core.specs.Answers.{now, refusal, to_client, sent_by, packets}
use Rattle.messages.specs.Bodies.{kind_of}
use Rattle.messages.specs.Kinds.{is_of_server}
use Rattle.server_core.specs.Sent.{GoesToClient, PacketsGoToClient}
use Rattle.fc_base.proofs.ListLemmas.{all_append}

-- A body of a kind that servers send.
abbrev pub Own : Body → Type 0
Own b = IsTrue (is_of_server (kind_of b))

abbrev Each : List Body → Type 0
Each bs = AllByRecursion Own bs

each_if : (b : Bool) (xs ys : List Body) → Each xs → Each ys → Each (if b then xs else ys)
each_if true xs ys h k = h
each_if false xs ys h k = k

text_frames : (r : ℕ) (t : Result (List Job) ℕ) → Each (reply_to_text r t)
text_frames r (Ok jobs) = (refl, tt)
text_frames r (Err value) = (refl, tt)

new_jobs : (r : ℕ) (s : Option Staged) (busy : Bool) (t : Result (List Job) ℕ) → Each (reply_to_new_jobs r s busy t)
new_jobs r (Some s) busy t = (refl, tt)
new_jobs r None busy t = each_if busy _ _ (refl, tt) (text_frames r t)

new_start : (r : ℕ) (s : Option Staged) (busy : Bool) → Each (reply_to_new_start r s busy)
new_start r None busy = (refl, tt)
new_start r (Some s) busy = each_if busy _ _ (refl, tt) (refl, tt)

start_frames : (n : Now) (r : ℕ) (w : Option Work) → Each (reply_to_start n r w)
start_frames n r (Some w) = (refl, tt)
start_frames n r None = each_if (nat_le r n.last) _ _ (refl, tt) (new_start r (for_run r n.staged) (is_open n.run))

gone_frames : (a : RefusedRequest) (r last : ℕ) → Each (gone_or_unknown a r last)
gone_frames a r last = each_if (nat_le r last) _ _ (refl, tt) (refl, tt)

stop_frames : (n : Now) (r : ℕ) (w : Option Work) → Each (reply_to_stop n r w)
stop_frames n r (Some w) = (refl, tt)
stop_frames n r None = gone_frames asks.Stop r n.last

progress_frames : (c : Check) (j : ℕ) (p : Progress) → Each (progress_frame c j p)
progress_frames c j Wanting = (refl, tt)
progress_frames c j Full = tt
progress_frames c j (With s) = tt
progress_frames c j (Refused value) = (refl, tt)
progress_frames c j (Done report) = (refl, tt)

frames_from : (c : Check) (j : ℕ) (jobs : List Job) → Each (check_frames_from c j jobs)
frames_from c j [] = tt
frames_from c j (job ∷ jobs) =
    all_append Own (progress_frame c j (progress_after c j job c.since)) (check_frames_from c (j + 1) jobs)
    (progress_frames c j (progress_after c j job c.since)) (frames_from c (j + 1) jobs)

check_text : (n : Now) (r a : ℕ) (t : Result (List Job) ℕ) → Each (reply_to_check_text n r a t)
check_text n r a (Ok js) = frames_from (record { server = n.server; boot = n.boot; run = r; attempt = a; jobs = js; since = [] }) 0 js
check_text n r a (Err value) = (refl, tt)

new_check : (n : Now) (r a : ℕ) (text : List ℕ) → Each (reply_to_new_check n r a text)
new_check n r a text = each_if (is_open n.run || is_unended n.run) _ _ (refl, tt) (check_text n r a (jobs_for Read text))

attempt_frames : (n : Now) (r a : ℕ) (text : List ℕ) (c : Option Check) → Each (reply_to_attempt n r a text c)
attempt_frames n r a text None = new_check n r a text
attempt_frames n r a text (Some c) =
    each_if (nat_lt a c.attempt) _ _ (refl, tt) (each_if (c.attempt == a) _ _ (frames_from c 0 c.jobs) (new_check n r a text))

misfit_frames : (c : Check) (j : ℕ) (p q : Progress) → Each (misfit_frame c j p q)
misfit_frames c j Wanting Wanting = tt
misfit_frames c j Wanting Full = tt
misfit_frames c j Wanting (With s) = tt
misfit_frames c j Wanting (Refused value) = (refl, tt)
misfit_frames c j Wanting (Done report) = tt
misfit_frames c j Full q = tt
misfit_frames c j (With s) q = tt
misfit_frames c j (Refused value) q = tt
misfit_frames c j (Done report) q = tt

state_for : (c : Check) (a : ℕ) (s : SavedState) (job : Option Job) → Each (reply_to_state_for c a s job)
state_for c a s None = tt
state_for c a s (Some job) =
    misfit_frames c s.key.job (progress_after c s.key.job job c.since) (progress_by c s.key.job job (ToHold a s) (progress_after c s.key.job job c.since))

hold_frames : (a : ℕ) (s : SavedState) (c : Option Check) → Each (reply_to_state a s c)
hold_frames a s None = tt
hold_frames a s (Some c) = state_for c a s (slice_get c.jobs s.key.job)

report_frames : (j : ℕ) (r : ReportParts) (c : Option Check) → Each (reply_to_report j r c)
report_frames j r None = tt
report_frames j r (Some c) = (refl, tt)

one_frame : (w : Work) (j : ℕ) (s : SavedState) (t : Bool) → Own (if t then bodies.State (length w.jobs) s else bodies.NoState w.run j (length w.jobs))
one_frame w j s true = refl
one_frame w j s false = refl

taken_frames : (w : Work) (before : List Request) (j : ℕ) (jobs : List Job) → Each (state_frames w before j jobs)
taken_frames w before j [] = tt
taken_frames w before j (job ∷ jobs) = (one_frame w j (job_state (origin_of w j job) before) job.save, taken_frames w before (j + 1) jobs)

halt_frames : (w : Work) (last : ℕ) (h : Option Halt) → Each (reply_to_halt w last h)
halt_frames w last None = taken_frames w w.since 0 w.jobs
halt_frames w last (Some (Triggered act before)) = taken_frames w before 0 w.jobs
halt_frames w last (Some Stopped) = (refl, tt)

trigger_frames : (n : Now) (r : ℕ) (w : Option Work) → Each (reply_to_trigger n r w)
trigger_frames n r None = gone_frames asks.Trigger r n.last
trigger_frames n r (Some w) = halt_frames w n.last (halt_of w.run w.since)

reply_frames : (n : Now) (x : Request) → Each (replies n x)
reply_frames n (ToStage r text) =
    each_if (nat_le r n.last || nat_lt r (number_staged n.staged)) _ _ (refl, tt) (new_jobs r (for_run r n.staged) (is_open n.run) (jobs_for Write text))
reply_frames n (ToStart r) = start_frames n r (present r n.run)
reply_frames n (ToTrigger r act) = trigger_frames n r (present r n.run)
reply_frames n (ToMark r j) = tt
reply_frames n (ToStop r) = stop_frames n r (present r n.run)
reply_frames n (ToVerify r a text) = each_if (nat_lt n.last r) _ _ (refl, tt) (each_if (nat_lt r n.last) _ _ (refl, tt) (attempt_frames n r a text n.check))
reply_frames n (ToHold a s) = hold_frames a s n.check
reply_frames n (ToPassFully a j) = tt
reply_frames n (ToIssue j) = tt
reply_frames n (ToEnd ticket end) = tt
reply_frames n (ToReport b a j report) = report_frames j report n.check
reply_frames n ToNobody = tt

unlost : (lost : Bool) (f : Option Fault) (bs : List Body) → Each bs → Each (sent_by lost f bs)
unlost true None bs h = tt
unlost false None bs h = h
unlost lost (Some fault) bs h = tt

addressed : (me : ℕ) (bs : List Body) → Each bs → AllByRecursion (GoesToClient me) (to_client me bs)
addressed me [] h = tt
addressed me (b ∷ bs) h = (record { ends = refl; kind = h.0 }, addressed me bs h.1)

each_packet : (o : Opening) (past : List Entry) (e : Entry) → AllByRecursion (GoesToClient o.me) (packets o past e)
each_packet o past (Met e left) =
    let replied = replies (now o past) (request_of o.me e) in
    addressed o.me (sent_by (is_lost left) (refusal o past e) replied)
    (unlost (is_lost left) (refusal o past e) replied (reply_frames (now o past) (request_of o.me e)))
each_packet o past Cut = tt
each_packet o past (Restart left) = tt

pub packets_go_to_client : PacketsGoToClient
packets_go_to_client o past e p h =
    All-contains (GoesToClient o.me) (packets o past e) p (All-from_recursion (GoesToClient o.me) (packets o past e) (each_packet o past e)) h
