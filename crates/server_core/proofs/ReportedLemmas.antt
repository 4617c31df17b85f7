-- Each Report that a server sends is of a check that was done.
use Rattle.std.proofs.Common.{◌≡◌, refl, sym, ◌∙◌, ap, subst, ℕ, ◌+◌, suc, arith, Bool, true, false, ◌&&◌, ◌==◌, List, [], ◌∷◌, Option, None, Some}
use Rattle.std.specs.List.{AllByRecursion}
use Rattle.std.specs.Prelude.{if◌then◌else◌, nat_lt, nat_le, slice_get, ◌||◌, Result, Ok, Err, length}
use Rattle.std.proofs.lemmas.Bool.{eqb-true, and_parts}
use Rattle.std.proofs.lemmas.List.Elements.{All-contains, All-from_recursion}
use Rattle.fc_base.specs.declared.fault.Fault.{Fault}
use Rattle.fc_base.specs.declared.fault.Fault.TheVariants.{Down}
use Rattle.fc_base.specs.declared.report.ReportParts.{ReportParts}
use Rattle.job_file.specs.declared.job.Job.{Job}
use Rattle.job_file.specs.declared.job.Phase.TheVariants.{Read, Write}
use Rattle.verify_state.specs.State.{State as SavedState}
use Rattle.messages.specs.declared.body.Body.{Body}
use Rattle.messages.specs.declared.body.Body.TheVariants as bodies
use Rattle.messages.specs.declared.packet.PacketParts.{PacketParts}
use Rattle.messages.specs.declared.refusal.RefusedRequest.{RefusedRequest}
use Rattle.messages.specs.declared.refusal.RefusedRequest.TheVariants as asks
use Rattle.disk_model.specs.SaveOutcome.{is_lost}
use Rattle.disk_model.specs.declared.save_outcome.SaveOutcome.{SaveOutcome}
use Rattle.server_core.specs.Inputs.{PacketInput}
use Rattle.server_core.specs.declared.input.Input.TheVariants.{CheckDone}
use Rattle.server_core.specs.History.{Opening, Entry, Met, Cut, Restart}
use Rattle.server_core.specs.Request.{Request, ToStage, ToStart, ToTrigger, ToMark, ToStop, ToVerify}
use Rattle.server_core.specs.Request.{ToHold, ToPassFully, ToIssue, ToEnd, ToReport, ToNobody, request_of}
use Rattle.server_core.specs.Texts.{jobs_for}
use Rattle.server_core.specs.Run.{Work, Halt, Triggered, Stopped, halt_of, origin_of, is_open, is_unended}
use Rattle.server_core.specs.Words.{Staged, for_run, is_on, boot}
use Rattle.server_core.specs.Taken.{job_state}
use Rattle.server_core.specs.Check.{Check, Progress, Wanting, Full, With, Refused, Done}
use Rattle.server_core.specs.Check.{progress_by, progress_after, progress_in}
use Rattle.server_core.specs.Check.{check}
use Rattle.server_core.specs.Replies.{Now, number_staged, reply_to_text, reply_to_new_jobs, present, reply_to_new_start, reply_to_start, gone_or_unknown}
use Rattle.server_core.specs.Replies.{state_frames, reply_to_halt, reply_to_trigger, reply_to_stop, progress_frame, check_frames_from, reply_to_check_text}
use Rattle.server_core.specs.Replies.{reply_to_new_check, reply_to_attempt, misfit_frame, reply_to_state_for, reply_to_state, reply_to_report, replies}
use Rattle.server_core.specs.Answers.{now, refusal, refused_by, is_ready, is_open_attempt, to_client, sent_by, packets}
use Rattle.server_core.specs.Made.{WasMade, ReportsWereMade}
use Rattle.fc_base.proofs.ListLemmas.{all_append}
use Rattle.server_core.proofs.MadeLemmas.{MadeIn, made_now, still_made, fresh_made, made_in, is_check_done}

-- A body that is a Report says a check that was done in this list.
abbrev Says : Opening → List Entry → Body → Type 0
Says o list (bodies.Report run attempt j jobs report) = WasMade o list run attempt j report
Says o list _ = Unit {0}

abbrev Each : Opening → List Entry → List Body → Type 0
Each o list bs = AllByRecursion (Says o list) bs

each_if : (o : Opening) (list : List Entry) (t : Bool) (xs ys : List Body) → Each o list xs → Each o list ys → Each o list (if t then xs else ys)
each_if o list true xs ys h k = h
each_if o list false xs ys h k = k

text_frames : (o : Opening) (list : List Entry) (r : ℕ) (t : Result (List Job) ℕ) → Each o list (reply_to_text r t)
text_frames o list r (Ok jobs) = (tt, tt)
text_frames o list r (Err value) = (tt, tt)

new_jobs : (o : Opening) (list : List Entry) (r : ℕ) (s : Option Staged) (busy : Bool) (t : Result (List Job) ℕ)
    → Each o list (reply_to_new_jobs r s busy t)
new_jobs o list r (Some s) busy t = (tt, tt)
new_jobs o list r None busy t = each_if o list busy _ _ (tt, tt) (text_frames o list r t)

new_start : (o : Opening) (list : List Entry) (r : ℕ) (s : Option Staged) (busy : Bool) → Each o list (reply_to_new_start r s busy)
new_start o list r None busy = (tt, tt)
new_start o list r (Some s) busy = each_if o list busy _ _ (tt, tt) (tt, tt)

start_frames : (o : Opening) (list : List Entry) (n : Now) (r : ℕ) (w : Option Work) → Each o list (reply_to_start n r w)
start_frames o list n r (Some w) = (tt, tt)
start_frames o list n r None = each_if o list (nat_le r n.last) _ _ (tt, tt) (new_start o list r (for_run r n.staged) (is_open n.run))

gone_frames : (o : Opening) (list : List Entry) (a : RefusedRequest) (r last : ℕ) → Each o list (gone_or_unknown a r last)
gone_frames o list a r last = each_if o list (nat_le r last) _ _ (tt, tt) (tt, tt)

stop_frames : (o : Opening) (list : List Entry) (n : Now) (r : ℕ) (w : Option Work) → Each o list (reply_to_stop n r w)
stop_frames o list n r (Some w) = (tt, tt)
stop_frames o list n r None = gone_frames o list asks.Stop r n.last

one_frame : (o : Opening) (list : List Entry) (w : Work) (j : ℕ) (s : SavedState) (t : Bool)
    → Says o list (if t then bodies.State (length w.jobs) s else bodies.NoState w.run j (length w.jobs))
one_frame o list w j s true = tt
one_frame o list w j s false = tt

taken_frames : (o : Opening) (list : List Entry) (w : Work) (before : List Request) (j : ℕ) (jobs : List Job) → Each o list (state_frames w before j jobs)
taken_frames o list w before j [] = tt
taken_frames o list w before j (job ∷ jobs) =
    (one_frame o list w j (job_state (origin_of w j job) before) job.save, taken_frames o list w before (j + 1) jobs)

halt_frames : (o : Opening) (list : List Entry) (w : Work) (last : ℕ) (h : Option Halt) → Each o list (reply_to_halt w last h)
halt_frames o list w last None = taken_frames o list w w.since 0 w.jobs
halt_frames o list w last (Some (Triggered act before)) = taken_frames o list w before 0 w.jobs
halt_frames o list w last (Some Stopped) = (tt, tt)

trigger_frames : (o : Opening) (list : List Entry) (n : Now) (r : ℕ) (w : Option Work) → Each o list (reply_to_trigger n r w)
trigger_frames o list n r None = gone_frames o list asks.Trigger r n.last
trigger_frames o list n r (Some w) = halt_frames o list w n.last (halt_of w.run w.since)

misfit_frames : (o : Opening) (list : List Entry) (c : Check) (j : ℕ) (p q : Progress) → Each o list (misfit_frame c j p q)
misfit_frames o list c j Wanting Wanting = tt
misfit_frames o list c j Wanting Full = tt
misfit_frames o list c j Wanting (With s) = tt
misfit_frames o list c j Wanting (Refused value) = (tt, tt)
misfit_frames o list c j Wanting (Done report) = tt
misfit_frames o list c j Full q = tt
misfit_frames o list c j (With s) q = tt
misfit_frames o list c j (Refused value) q = tt
misfit_frames o list c j (Done report) q = tt

hold_for : (o : Opening) (list : List Entry) (c : Check) (a : ℕ) (s : SavedState) (job : Option Job) → Each o list (reply_to_state_for c a s job)
hold_for o list c a s None = tt
hold_for o list c a s (Some job) =
    misfit_frames o list c s.key.job (progress_after c s.key.job job c.since) (progress_by c s.key.job job (ToHold a s) (progress_after c s.key.job job c.since))

hold_frames : (o : Opening) (list : List Entry) (a : ℕ) (s : SavedState) (c : Option Check) → Each o list (reply_to_state a s c)
hold_frames o list a s None = tt
hold_frames o list a s (Some c) = hold_for o list c a s (slice_get c.jobs s.key.job)

progress_said : (o : Opening) (list : List Entry) (c : Check) (j : ℕ) (p : Progress) → ((r : ReportParts) → p ≡ Done r → WasMade o list c.run c.attempt j r)
    → Each o list (progress_frame c j p)
progress_said o list c j Wanting f = (tt, tt)
progress_said o list c j Full f = tt
progress_said o list c j (With s) f = tt
progress_said o list c j (Refused value) f = (tt, tt)
progress_said o list c j (Done r) f = (f r refl, tt)

-- The jobs from this one on.
frames_from : (o : Opening) (list : List Entry) (c : Check) (k : ℕ) (jobs : List Job) → ((i : ℕ) → slice_get c.jobs (k + i) ≡ slice_get jobs i)
    → MadeIn o list (Some c) → Each o list (check_frames_from c k jobs)
frames_from o list c k [] at m = tt
frames_from o list c k (job ∷ jobs) at m =
    let here : k + 0 ≡ k = omega arith in
    let is_job : slice_get c.jobs k ≡ Some job = ap (slice_get c.jobs) (sym here) ∙ at 0 in
    all_append (Says o list) (progress_frame c k (progress_after c k job c.since)) (check_frames_from c (k + 1) jobs)
    (progress_said o list c k (progress_after c k job c.since) (λ r h. m k job r is_job h))
    (frames_from o list c (k + 1) jobs (λ i. let next : k + 1 + i ≡ k + suc i = omega arith in ap (slice_get c.jobs) next ∙ at (suc i)) m)

check_said : (o : Opening) (list : List Entry) (c : Check) → MadeIn o list (Some c) → Each o list (check_frames_from c 0 c.jobs)
check_said o list c m = frames_from o list c 0 c.jobs (λ i. let here : 0 + i ≡ i = omega arith in ap (slice_get c.jobs) here) m

check_text : (o : Opening) (list : List Entry) (n : Now) (r a : ℕ) (t : Result (List Job) ℕ) → Each o list (reply_to_check_text n r a t)
check_text o list n r a (Ok js) =
    let c : Check = record { server = n.server; boot = n.boot; run = r; attempt = a; jobs = js; since = [] } in
    check_said o list c (fresh_made o list c refl)
check_text o list n r a (Err value) = (tt, tt)

new_check : (o : Opening) (list : List Entry) (n : Now) (r a : ℕ) (text : List ℕ) → Each o list (reply_to_new_check n r a text)
new_check o list n r a text = each_if o list (is_open n.run || is_unended n.run) _ _ (tt, tt) (check_text o list n r a (jobs_for Read text))

attempt_frames : (o : Opening) (list : List Entry) (n : Now) (r a : ℕ) (text : List ℕ) (c : Option Check) → MadeIn o list c
    → Each o list (reply_to_attempt n r a text c)
attempt_frames o list n r a text None m = new_check o list n r a text
attempt_frames o list n r a text (Some c) m =
    each_if o list (nat_lt a c.attempt) _ _ (tt, tt) (each_if o list (c.attempt == a) _ _ (check_said o list c m) (new_check o list n r a text))

-- The end of a check that is accepted is one.
abbrev Ended : Opening → List Entry → Option Check → Request → Type 0
Ended o list (Some c) (ToReport b a j r) = WasMade o list c.run c.attempt j r
Ended o list _ _ = Unit {0}

report_said : (o : Opening) (list : List Entry) (b a j : ℕ) (r : ReportParts) (c : Option Check) → Ended o list c (ToReport b a j r)
    → Each o list (reply_to_report j r c)
report_said o list b a j r None h = tt
report_said o list b a j r (Some c) h = (h, tt)

reply_said : (o : Opening) (list : List Entry) (n : Now) (x : Request) → MadeIn o list n.check → Ended o list n.check x → Each o list (replies n x)
reply_said o list n (ToStage r text) m h =
    each_if o list (nat_le r n.last || nat_lt r (number_staged n.staged)) _ _ (tt, tt)
    (new_jobs o list r (for_run r n.staged) (is_open n.run) (jobs_for Write text))
reply_said o list n (ToStart r) m h = start_frames o list n r (present r n.run)
reply_said o list n (ToTrigger r act) m h = trigger_frames o list n r (present r n.run)
reply_said o list n (ToMark r j) m h = tt
reply_said o list n (ToStop r) m h = stop_frames o list n r (present r n.run)
reply_said o list n (ToVerify r a text) m h =
    each_if o list (nat_lt n.last r) _ _ (tt, tt) (each_if o list (nat_lt r n.last) _ _ (tt, tt) (attempt_frames o list n r a text n.check m))
reply_said o list n (ToHold a s) m h = hold_frames o list a s n.check
reply_said o list n (ToPassFully a j) m h = tt
reply_said o list n (ToIssue j) m h = tt
reply_said o list n (ToEnd ticket end) m h = tt
reply_said o list n (ToReport b a j r) m h = report_said o list b a j r n.check h
reply_said o list n ToNobody m h = tt

both_hold : (on s t : Bool) (fault : Fault) → (if on then refused_by s t else Some fault) ≡ None → t ≡ true
both_hold true true true fault h = refl
both_hold true true false fault h = cc
both_hold true false t fault h = cc
both_hold false s t fault h = cc

-- An end of a check that is accepted is one of the open check, in its attempt.
ended_by : (o : Opening) (e : PacketInput) (left : SaveOutcome) (past : List Entry) (c : Option Check) (x : Request) → check o past ≡ c → request_of o.me e ≡ x
    → refusal o past e ≡ None → Ended o (Met e left ∷ past) c x
ended_by o e left past (Some c) (ToReport b a j r) is asks fine =
    let end : e ≡ CheckDone b a j r = is_check_done o.me e b a j r asks in
    let fine' : refusal o past (CheckDone b a j r) ≡ None = subst (λ f. refusal o past f ≡ None) end fine in
    let t = both_hold (is_on past) (b == boot o past) (is_open_attempt a (check o past) && is_ready (progress_in (check o past) j)) Down fine' in
    let u = and_parts (is_open_attempt a (check o past)) (is_ready (progress_in (check o past) j)) t in
    let same : c.attempt ≡ a = eqb-true c.attempt a (ap (is_open_attempt a) (sym is) ∙ u.0) in
    subst (λ n. WasMade o (Met e left ∷ past) c.run n j r) (sym same) (made_now o e left past c b a j r end is same fine')
ended_by o e left past None x is asks fine = tt
ended_by o e left past (Some c) (ToStage r text) is asks fine = tt
ended_by o e left past (Some c) (ToStart r) is asks fine = tt
ended_by o e left past (Some c) (ToTrigger r act) is asks fine = tt
ended_by o e left past (Some c) (ToMark r j) is asks fine = tt
ended_by o e left past (Some c) (ToStop r) is asks fine = tt
ended_by o e left past (Some c) (ToVerify r a text) is asks fine = tt
ended_by o e left past (Some c) (ToHold a s) is asks fine = tt
ended_by o e left past (Some c) (ToPassFully a j) is asks fine = tt
ended_by o e left past (Some c) (ToIssue j) is asks fine = tt
ended_by o e left past (Some c) (ToEnd ticket end) is asks fine = tt
ended_by o e left past (Some c) ToNobody is asks fine = tt

made_later : (o : Opening) (e : Entry) (list : List Entry) (c : Option Check) → MadeIn o list c → MadeIn o (e ∷ list) c
made_later o e list None m = tt
made_later o e list (Some c) m = λ j job r at h. still_made o e list c.run c.attempt j r (m j job r at h)

sent_said : (o : Opening) (list : List Entry) (lost : Bool) (f : Option Fault) (bs : List Body) → (f ≡ None → Each o list bs) → Each o list (sent_by lost f bs)
sent_said o list true None bs h = tt
sent_said o list false None bs h = h refl
sent_said o list lost (Some fault) bs h = tt

-- Each packet of the client says what its body says.
abbrev SaysIn : Opening → List Entry → PacketParts → Type 0
SaysIn o list p = Says o list p.body

carried : (o : Opening) (list : List Entry) (me : ℕ) (bs : List Body) → Each o list bs → AllByRecursion (SaysIn o list) (to_client me bs)
carried o list me [] h = tt
carried o list me (b ∷ bs) h = (h.0, carried o list me bs h.1)

each_packet : (o : Opening) (past : List Entry) (e : Entry) → AllByRecursion (SaysIn o (e ∷ past)) (packets o past e)
each_packet o past (Met e left) =
    let list = Met e left ∷ past in
    let replied = replies (now o past) (request_of o.me e) in
    carried o list o.me (sent_by (is_lost left) (refusal o past e) replied)
    (sent_said o list (is_lost left) (refusal o past e) replied (λ fine. reply_said o list (now o past) (request_of o.me e)
    (made_later o (Met e left) past (check o past) (made_in o past))
    (ended_by o e left past (check o past) (request_of o.me e) refl refl fine)))
each_packet o past Cut = tt
each_packet o past (Restart left) = tt

pub reports_were_made : ReportsWereMade
reports_were_made o past e p run attempt j jobs report h is =
    subst (Says o (e ∷ past)) is
    (All-contains (SaysIn o (e ∷ past)) (packets o past e) p (All-from_recursion (SaysIn o (e ∷ past)) (packets o past e) (each_packet o past e)) h)
