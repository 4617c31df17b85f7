-- What the packets of a server say of the states that were taken.
use Rattle.std.proofs.Common.{◌≡◌, refl, sym, ◌∙◌, ap, subst, inl, inr, ℕ, suc, ◌+◌, arith, Bool}
use Rattle.std.proofs.Common.{true, false, ◌==◌, List, [], ◌∷◌, ◌++◌, length, Option, None, Some}
use Rattle.std.specs.Prelude.{is_some, if◌then◌else◌, nat_lt, nat_le, slice_get, Result, Ok, Err, Contains, ◌||◌}
use Rattle.std.specs.Option.{option_or}
use Rattle.std.proofs.lemmas.Bool.{eqb-true}
use Rattle.std.proofs.lemmas.Bool.Decides.{nat_tests}
use Rattle.std.proofs.lemmas.List.Elements.{Contains-append_cases}
use Rattle.fc_base.specs.declared.fault.Fault.{Fault}
use Rattle.fc_base.specs.declared.report.ReportParts.{ReportParts}
use Rattle.job_file.specs.declared.job.Job.{Job}
use Rattle.job_file.specs.declared.job.Phase.TheVariants.{Read, Write}
use Rattle.verify_state.specs.State.{State as SavedState}
use Rattle.messages.specs.declared.body.Body.{Body}
use Rattle.messages.specs.declared.body.Body.TheVariants as bodies
use Rattle.messages.specs.declared.node.Node.TheVariants.{Server, Client}
use Rattle.messages.specs.declared.packet.PacketParts.{PacketParts}
use Rattle.messages.specs.declared.refusal.Act.{Act}
use Rattle.messages.specs.declared.refusal.RefusedRequest.{RefusedRequest}
use Rattle.messages.specs.declared.refusal.RefusedRequest.TheVariants as asks
use Rattle.disk_model.specs.declared.save_outcome.SaveOutcome.{SaveOutcome}
use Rattle.disk_model.specs.declared.save_outcome.SaveOutcome.TheVariants.{NoSave, Saved, LostNew, LostOld}
use Rattle.disk_model.specs.SaveOutcome.{is_lost}
use Rattle.server_core.specs.Inputs.{PacketInput}
use Rattle.server_core.specs.History.{Opening, Entry, Met, Cut, Restart}
use Rattle.server_core.specs.Request.{Request, ToStage, ToStart, ToTrigger, ToMark, ToStop, ToVerify}
use Rattle.server_core.specs.Request.{ToHold, ToPassFully, ToIssue, ToEnd, ToReport, ToNobody, request_of}
use Rattle.server_core.specs.Texts.{jobs_for}
use Rattle.server_core.specs.Run.{Work, Halt, Triggered, Stopped, halt_by, halt_of, origin_of, goes_on, is_open, is_unended}
use Rattle.server_core.specs.Words.{Staged, for_run, is_on, boot, last_run, work, staged_run, due, work_after}
use Rattle.server_core.specs.Taken.{job_state, state_of_job, taken_by_halt, and_those, takings}
use Rattle.server_core.specs.Check.{Check, Progress, Wanting, Full, With, Refused, Done, progress_after, progress_by}
use Rattle.server_core.specs.Replies.{Now, number_staged, reply_to_text, reply_to_new_jobs, present, reply_to_new_start, reply_to_start, gone_or_unknown}
use Rattle.server_core.specs.Replies.{state_frames, reply_to_halt, reply_to_trigger, reply_to_stop, progress_frame, check_frames_from, reply_to_check_text}
use Rattle.server_core.specs.Replies.{reply_to_new_check, reply_to_attempt, misfit_frame, reply_to_state_for, reply_to_state, reply_to_report, replies}
use Rattle.server_core.specs.Answers.{now, refusal, to_client, sent_by, packets}
use Rattle.server_core.specs.Laws.{IsTheTaken, HasJobs, IsUntaken}
use Rattle.server_core.proofs.Takings.{Known, known}
use Rattle.server_core.proofs.TakenLemmas.{stands_by, holds_the_taken}
use Rattle.server_core.proofs.Due.{due_start}
use Rattle.fc_base.proofs.ListLemmas.{none_in, only_in}

-- What is known of a body that tells of a taking: it has a state, or says that there is none.
abbrev Of : (Body → Type 0) → Body → Type 0
Of P (bodies.State jobs state) = P (bodies.State jobs state)
Of P (bodies.NoState r j jobs) = P (bodies.NoState r j jobs)
Of P _ = Unit {0}

abbrev Each : (Body → Type 0) → List Body → Type 0
Each P [] = Unit {0}
Each P (b ∷ bs) = Of P b × Each P bs

each_append : (P : Body → Type 0) (xs ys : List Body) → Each P xs → Each P ys → Each P (xs ++ ys)
each_append P [] ys h k = k
each_append P (x ∷ xs) ys h k = (h.0, each_append P xs ys h.1 k)

each_if : (P : Body → Type 0) (b : Bool) (xs ys : List Body) → Each P xs → Each P ys → Each P (if b then xs else ys)
each_if P true xs ys h k = h
each_if P false xs ys h k = k

text_frames : (P : Body → Type 0) (r : ℕ) (t : Result (List Job) ℕ) → Each P (reply_to_text r t)
text_frames P r (Ok jobs) = (tt, tt)
text_frames P r (Err value) = (tt, tt)

new_jobs : (P : Body → Type 0) (r : ℕ) (s : Option Staged) (busy : Bool) (t : Result (List Job) ℕ) → Each P (reply_to_new_jobs r s busy t)
new_jobs P r (Some s) busy t = (tt, tt)
new_jobs P r None busy t = each_if P busy _ _ (tt, tt) (text_frames P r t)

new_start : (P : Body → Type 0) (r : ℕ) (s : Option Staged) (busy : Bool) → Each P (reply_to_new_start r s busy)
new_start P r None busy = (tt, tt)
new_start P r (Some s) busy = each_if P busy _ _ (tt, tt) (tt, tt)

start_frames : (P : Body → Type 0) (n : Now) (r : ℕ) (w : Option Work) → Each P (reply_to_start n r w)
start_frames P n r (Some w) = (tt, tt)
start_frames P n r None = each_if P (nat_le r n.last) _ _ (tt, tt) (new_start P r (for_run r n.staged) (is_open n.run))

gone_frames : (P : Body → Type 0) (a : RefusedRequest) (r last : ℕ) → Each P (gone_or_unknown a r last)
gone_frames P a r last = each_if P (nat_le r last) _ _ (tt, tt) (tt, tt)

stop_frames : (P : Body → Type 0) (n : Now) (r : ℕ) (w : Option Work) → Each P (reply_to_stop n r w)
stop_frames P n r (Some w) = (tt, tt)
stop_frames P n r None = gone_frames P asks.Stop r n.last

progress_frames : (P : Body → Type 0) (c : Check) (j : ℕ) (p : Progress) → Each P (progress_frame c j p)
progress_frames P c j Wanting = (tt, tt)
progress_frames P c j Full = tt
progress_frames P c j (With s) = tt
progress_frames P c j (Refused value) = (tt, tt)
progress_frames P c j (Done report) = (tt, tt)

frames_from : (P : Body → Type 0) (c : Check) (j : ℕ) (jobs : List Job) → Each P (check_frames_from c j jobs)
frames_from P c j [] = tt
frames_from P c j (job ∷ jobs) =
    each_append P (progress_frame c j (progress_after c j job c.since)) (check_frames_from c (j + 1) jobs)
    (progress_frames P c j (progress_after c j job c.since)) (frames_from P c (j + 1) jobs)

check_text : (P : Body → Type 0) (n : Now) (r a : ℕ) (t : Result (List Job) ℕ) → Each P (reply_to_check_text n r a t)
check_text P n r a (Ok js) = frames_from P (record { server = n.server; boot = n.boot; run = r; attempt = a; jobs = js; since = [] }) 0 js
check_text P n r a (Err value) = (tt, tt)

new_check : (P : Body → Type 0) (n : Now) (r a : ℕ) (text : List ℕ) → Each P (reply_to_new_check n r a text)
new_check P n r a text = each_if P (is_open n.run || is_unended n.run) _ _ (tt, tt) (check_text P n r a (jobs_for Read text))

attempt_frames : (P : Body → Type 0) (n : Now) (r a : ℕ) (text : List ℕ) (c : Option Check) → Each P (reply_to_attempt n r a text c)
attempt_frames P n r a text None = new_check P n r a text
attempt_frames P n r a text (Some c) =
    each_if P (nat_lt a c.attempt) _ _ (tt, tt) (each_if P (c.attempt == a) _ _ (frames_from P c 0 c.jobs) (new_check P n r a text))

misfit_frames : (P : Body → Type 0) (c : Check) (j : ℕ) (p q : Progress) → Each P (misfit_frame c j p q)
misfit_frames P c j Wanting Wanting = tt
misfit_frames P c j Wanting Full = tt
misfit_frames P c j Wanting (With s) = tt
misfit_frames P c j Wanting (Refused value) = (tt, tt)
misfit_frames P c j Wanting (Done report) = tt
misfit_frames P c j Full q = tt
misfit_frames P c j (With s) q = tt
misfit_frames P c j (Refused value) q = tt
misfit_frames P c j (Done report) q = tt

state_for : (P : Body → Type 0) (c : Check) (a : ℕ) (s : SavedState) (job : Option Job) → Each P (reply_to_state_for c a s job)
state_for P c a s None = tt
state_for P c a s (Some job) =
    misfit_frames P c s.key.job (progress_after c s.key.job job c.since) (progress_by c s.key.job job (ToHold a s) (progress_after c s.key.job job c.since))

hold_frames : (P : Body → Type 0) (a : ℕ) (s : SavedState) (c : Option Check) → Each P (reply_to_state a s c)
hold_frames P a s None = tt
hold_frames P a s (Some c) = state_for P c a s (slice_get c.jobs s.key.job)

report_frames : (P : Body → Type 0) (j : ℕ) (r : ReportParts) (c : Option Check) → Each P (reply_to_report j r c)
report_frames P j r None = tt
report_frames P j r (Some c) = (tt, tt)

-- What the frames of a taking say.
abbrev IsFrameOf : Work → List Request → Body → Type 0
IsFrameOf w before (bodies.State jobs s) = (jobs ≡ length w.jobs) × ((j : ℕ) × (state_of_job w j before ≡ Some s))
IsFrameOf w before (bodies.NoState r j jobs) = (r ≡ w.run) × (jobs ≡ length w.jobs) × (state_of_job w j before ≡ None)
IsFrameOf w before _ = Unit {0}

one_frame : (w : Work) (before : List Request) (j : ℕ) (job : Job) (b : Bool) → job.save ≡ b → slice_get w.jobs j ≡ Some job
    → Of (IsFrameOf w before) (if b then bodies.State (length w.jobs) (job_state (origin_of w j job) before) else bodies.NoState w.run j (length w.jobs))
one_frame w before j job true e h = (refl, (j, rw (h, e) refl))
one_frame w before j job false e h = (refl, refl, rw (h, e) refl)

frames_of : (w : Work) (before : List Request) (j : ℕ) (jobs : List Job)
    → ((i : ℕ) (job : Job) → slice_get jobs i ≡ Some job → slice_get w.jobs (j + i) ≡ Some job)
    → Each (IsFrameOf w before) (state_frames w before j jobs)
frames_of w before j [] f = tt
frames_of w before j (job ∷ jobs) f =
    let zero_more : j + 0 ≡ j = omega arith in (
      one_frame w before j job job.save refl (subst (λ n. slice_get w.jobs n ≡ Some job) zero_more (f 0 job refl)),
      frames_of w before (j + 1) jobs (λ i k h. let moved : j + suc i ≡ j + 1 + i = omega arith in
          subst (λ n. slice_get w.jobs n ≡ Some k) moved (f (suc i) k h)),
    )

all_frames : (w : Work) (before : List Request) → Each (IsFrameOf w before) (state_frames w before 0 w.jobs)
all_frames w before = frames_of w before 0 w.jobs (λ i job h. let same : 0 + i ≡ i = omega arith in subst (λ n. slice_get w.jobs n ≡ Some job) (sym same) h)

each_weaker : (P Q : Body → Type 0) (bs : List Body) → ((b : Body) → Of P b → Of Q b) → Each P bs → Each Q bs
each_weaker P Q [] f h = tt
each_weaker P Q (b ∷ bs) f h = (f b h.0, each_weaker P Q bs f h.1)

-- What the frames say of the run as a halt has left it.
abbrev IsFrameBy : Work → Option Halt → Body → Type 0
IsFrameBy w halt (bodies.State jobs s) = (jobs ≡ length w.jobs) × ((j : ℕ) × (taken_by_halt w j halt ≡ Some s))
IsFrameBy w halt (bodies.NoState r j jobs) = (r ≡ w.run) × (jobs ≡ length w.jobs) × (taken_by_halt w j halt ≡ None) × (is_some halt ≡ true)
IsFrameBy w halt _ = Unit {0}

by_halt : (w : Work) (act : Act) (before : List Request) (b : Body) → Of (IsFrameOf w before) b → Of (IsFrameBy w (Some (Triggered act before))) b
by_halt w act before (bodies.State jobs s) h = h
by_halt w act before (bodies.NoState r j jobs) h = (h.0, h.1, h.2, refl)
by_halt w act before _ h = tt

halt_frames : (w : Work) (last : ℕ) (halt : Option Halt) (new : Option Halt)
    → ((b : Body) → Of (IsFrameOf w w.since) b → Of (IsFrameBy w new) b) → Each (IsFrameBy w (option_or halt new)) (reply_to_halt w last halt)
halt_frames w last None new f = each_weaker (IsFrameOf w w.since) (IsFrameBy w new) (state_frames w w.since 0 w.jobs) f (all_frames w w.since)
halt_frames w last (Some (Triggered act before)) new f =
    each_weaker (IsFrameOf w before) (IsFrameBy w (Some (Triggered act before))) (state_frames w before 0 w.jobs) (by_halt w act before) (all_frames w before)
halt_frames w last (Some Stopped) new f = (tt, tt)

new_halt : (w : Work) (r : ℕ) (act : Act) (b : Body) → w.run ≡ r → Of (IsFrameOf w w.since) b → Of (IsFrameBy w (halt_by w.run (ToTrigger r act) w.since)) b
new_halt w r act b e h = let same : (r == w.run) ≡ true = grind (arith, nat_tests) in rw same (by_halt w act w.since b h)

-- What each frame says of the run behind the request.
abbrev IsSaid : Option Work → Body → Type 0
IsSaid None b = ⊥
IsSaid (Some v) b = IsFrameBy v (halt_of v.run v.since) b

abbrev IsSent : Request → Option Work → Body → Type 0
IsSent x w b = IsSaid (goes_on x w) b

trigger_frames : (n : Now) (r : ℕ) (act : _) (w : Work) (t : Bool) → (t ≡ true → w.run ≡ r)
    → Each (IsSent (ToTrigger r act) (Some w)) (reply_to_trigger n r (if t then Some w else None))
trigger_frames n r act w true e =
    halt_frames w n.last (halt_of w.run w.since) (halt_by w.run (ToTrigger r act) w.since) (λ b h. new_halt w r act b (e refl) h)
trigger_frames n r act w false e = gone_frames (IsSent (ToTrigger r act) (Some w)) asks.Trigger r n.last

trigger_of : (n : Now) (r : ℕ) (act : _) (w : Option Work) → Each (IsSent (ToTrigger r act) w) (reply_to_trigger n r (present r w))
trigger_of n r act None = gone_frames (IsSent (ToTrigger r act) None) asks.Trigger r n.last
trigger_of n r act (Some w) = trigger_frames n r act w (w.run == r) (eqb-true w.run r)

reply_frames : (n : Now) (x : Request) → Each (IsSent x n.run) (replies n x)
reply_frames n (ToStage r text) = each_if (IsSent (ToStage r text) n.run) (nat_le r n.last || nat_lt r (number_staged n.staged)) _ _ (tt, tt)
    (new_jobs (IsSent (ToStage r text) n.run) r (for_run r n.staged) (is_open n.run) (jobs_for Write text))
reply_frames n (ToStart r) = start_frames (IsSent (ToStart r) n.run) n r (present r n.run)
reply_frames n (ToTrigger r act) = trigger_of n r act n.run
reply_frames n (ToMark r j) = tt
reply_frames n (ToStop r) = stop_frames (IsSent (ToStop r) n.run) n r (present r n.run)
reply_frames n (ToVerify r a text) =
    each_if (IsSent (ToVerify r a text) n.run) (nat_lt n.last r) _ _ (tt, tt)
    (each_if (IsSent (ToVerify r a text) n.run) (nat_lt r n.last) _ _ (tt, tt) (attempt_frames (IsSent (ToVerify r a text) n.run) n r a text n.check))
reply_frames n (ToHold a state) = hold_frames (IsSent (ToHold a state) n.run) a state n.check
reply_frames n (ToPassFully a j) = tt
reply_frames n (ToIssue j) = tt
reply_frames n (ToEnd ticket end) = tt
reply_frames n (ToReport b a j report) = report_frames (IsSent (ToReport b a j report) n.run) j report n.check
reply_frames n ToNobody = tt

found : (P : Body → Type 0) (me : ℕ) (bs : List Body) (p : PacketParts) → Each P bs → Contains (to_client me bs) p → Of P p.body
found P me [] p h i = absurd (none_in p i)
found P me (b ∷ bs) p h i =
    elim (Contains-append_cases (record { from = Server me; to = Client; body = b } ∷ []) (to_client me bs) p i) [
      | inl k ↦ subst (λ v. Of P v) (ap (λ (q : PacketParts). q.body) (only_in (record { from = Server me; to = Client; body = b }) p k)) h.0
      | inr k ↦ found P me bs p h.1 k
    ]

sent_frames : (P : Body → Type 0) (lost : Bool) (f : Option Fault) (bs : List Body) → (lost ≡ false → Each P bs) → Each P (sent_by lost f bs)
sent_frames P true None bs h = tt
sent_frames P false None bs h = h refl
sent_frames P lost (Some f) bs h = tt

unsent : (left : SaveOutcome) (d : Option Staged) (me now_boot : ℕ) (x : Request) (w : Option Work) → is_lost left ≡ false → (left ≡ Saved → d ≡ None)
    → goes_on x w ≡ work_after left d me now_boot x w
unsent NoSave d me now_boot x w h f = refl
unsent Saved None me now_boot x w h f = refl
unsent Saved (Some t) me now_boot x w h f = let none = f refl in cc
unsent LostNew d me now_boot x w h f = cc
unsent LostOld d me now_boot x w h f = cc

entry_frames : (o : Opening) (past : List Entry) (e : PacketInput) (left : SaveOutcome) (d : Option Staged) → due o past e ≡ d → is_lost left ≡ false
    → Each (IsSaid (work o (Met e left ∷ past))) (replies (now o past) (request_of o.me e))
entry_frames o past e left None is h =
    subst (λ v. Each (IsSaid v) (replies (now o past) (request_of o.me e)))
    (unsent left (due o past e) o.me (boot o past) (request_of o.me e) (work o past) h (λ v. is))
    (reply_frames (now o past) (request_of o.me e))
entry_frames o past e left (Some t) is h =
    let i = due_start (is_on past) (last_run o past) (staged_run o past) (work o past) (request_of o.me e) t is in
    subst (λ x. Each (IsSaid (work o (Met e left ∷ past))) (replies (now o past) x)) (sym i.start)
    (start_frames (IsSaid (work o (Met e left ∷ past))) (now o past) t.run (present t.run (work o past)))

said : (o : Opening) (past : List Entry) (e : Entry) (p : PacketParts) → Contains (packets o past e) p → Of (IsSaid (work o (e ∷ past))) p.body
said o past (Met e left) p h =
    found (IsSaid (work o (Met e left ∷ past))) o.me (sent_by (is_lost left) (refusal o past e) (replies (now o past) (request_of o.me e))) p
    (sent_frames (IsSaid (work o (Met e left ∷ past))) (is_lost left) (refusal o past e) (replies (now o past) (request_of o.me e))
    (entry_frames o past e left (due o past e) refl)) h
said o past Cut p h = absurd (none_in p h)
said o past (Restart left) p h = absurd (none_in p h)

state_at : (o : Opening) (list : List Entry) (x : Option Work) (jobs : ℕ) (s : SavedState) → work o list ≡ x → IsSaid x (bodies.State jobs s)
    → HasJobs o list jobs × ((j : ℕ) × IsTheTaken o list j s)
state_at o list None jobs s is h = absurd h
state_at o list (Some w) jobs s is h = (
  record { now = w; works = is; number = h.0 },
  (h.1.0, holds_the_taken o list h.1.0 s (rw is h.1.1)),
)

state_said : (o : Opening) (past : List Entry) (e : Entry) (p : PacketParts) (jobs : ℕ) (s : SavedState) → Contains (packets o past e) p
    → p.body ≡ bodies.State jobs s
    → HasJobs o (e ∷ past) jobs × ((j : ℕ) × IsTheTaken o (e ∷ past) j s)
state_said o past e p jobs s h b =
    state_at o (e ∷ past) (work o (e ∷ past)) jobs s refl (subst (λ v. Of (IsSaid (work o (e ∷ past))) v) b (said o past e p h))

pub state_tells_jobs : (o : Opening) (past : List Entry) (e : Entry) (p : PacketParts) (jobs : ℕ) (s : SavedState) → Contains (packets o past e) p
    → p.body ≡ bodies.State jobs s → HasJobs o (e ∷ past) jobs
state_tells_jobs o past e p jobs s h b = (state_said o past e p jobs s h b).0

pub sends_the_taken : (o : Opening) (past : List Entry) (e : Entry) (p : PacketParts) (jobs : ℕ) (s : SavedState) → Contains (packets o past e) p
    → p.body ≡ bodies.State jobs s → (j : ℕ) × IsTheTaken o (e ∷ past) j s
sends_the_taken o past e p jobs s h b = (state_said o past e p jobs s h b).1

empty : (run j last : ℕ) (states : List SavedState) (w : Work) → Known run j last states (Some w) → run ≡ w.run
    → taken_by_halt w j (halt_of w.run w.since) ≡ None → states ≡ []
empty run j last states w k e h = stands_by run j last states w k (sym e) ∙ ap (λ now. and_those now []) h

none_at : (o : Opening) (list : List Entry) (x : Option Work) (r j jobs : ℕ) → work o list ≡ x → IsSaid x (bodies.NoState r j jobs) → IsUntaken o list r j jobs
none_at o list None r j jobs is h = absurd h
none_at o list (Some w) r j jobs is h = record {
  now = w;
  works = is;
  run_is = h.0;
  number = h.1;
  over = h.3;
  none = empty r j (last_run o list) (takings o r j list) w (subst (λ v. Known r j (last_run o list) (takings o r j list) v) is (known o r j list)) h.0 h.2;
}

pub no_state_is_untaken : (o : Opening) (past : List Entry) (e : Entry) (p : PacketParts) (r j jobs : ℕ) → Contains (packets o past e) p
    → p.body ≡ bodies.NoState r j jobs → IsUntaken o (e ∷ past) r j jobs
no_state_is_untaken o past e p r j jobs h b =
    none_at o (e ∷ past) (work o (e ∷ past)) r j jobs refl (subst (λ v. Of (IsSaid (work o (e ∷ past))) v) b (said o past e p h))
