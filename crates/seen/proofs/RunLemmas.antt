-- Of which run a Started or a Report is that a server sends.
use Rattle.std.proofs.Common.{◌≡◌, refl, sym, ◌∙◌, ap, ◌⊎◌, inl, inr, ℕ, ◌+◌, ◌≤◌, arith, Bool, true, false, ◌==◌, List, [], ◌∷◌, ◌++◌, length, Option, Some, None}
use Rattle.std.specs.Prelude.{if◌then◌else◌, ◌||◌, nat_lt, nat_le, slice_get, Result, Ok, Err, Contains}
use Rattle.std.specs.List.{AllByRecursion}
use Rattle.std.proofs.lemmas.Bool.{eqb-true}
use Rattle.std.proofs.lemmas.Bool.Decides.{nat_tests}
use Rattle.fc_base.specs.declared.fault.Fault.{Fault}
use Rattle.fc_base.specs.declared.fault.Fault.TheVariants.{Down}
use Rattle.fc_base.specs.declared.report.ReportParts.{ReportParts}
use Rattle.fc_base.proofs.ListLemmas.{behind_one, each_of, all_append}
use Rattle.job_file.specs.declared.job.Job.{Job}
use Rattle.job_file.specs.declared.job.Phase.TheVariants.{Read, Write}
use Rattle.verify_state.specs.State.{State}
use Rattle.messages.specs.declared.body.Body.{Body}
use Rattle.messages.specs.declared.body.Body.TheVariants as bodies
use Rattle.messages.specs.declared.packet.PacketParts.{PacketParts}
use Rattle.messages.specs.declared.refusal.RefusedRequest.{RefusedRequest}
use Rattle.messages.specs.declared.refusal.RefusedRequest.TheVariants as asks
use Rattle.messages.specs.declared.refusal.Reason.TheVariants as reasons
use Rattle.disk_model.specs.declared.save_outcome.SaveOutcome.{SaveOutcome}
use Rattle.disk_model.specs.SaveOutcome.{is_lost, saved_for}
use Rattle.server_core.specs.Inputs.{PacketInput}
use Rattle.server_core.specs.History.{Opening, Entry, Met, Cut, Restart}
use Rattle.server_core.specs.Request.{Request, ToStage, ToStart, ToTrigger, ToMark, ToStop, ToVerify, ToHold, ToPassFully, ToIssue, ToEnd, ToReport, ToNobody, request_of}
use Rattle.server_core.specs.Texts.{jobs_for}
use Rattle.server_core.specs.Run.{Work, Halt, Triggered, Stopped, halt_of, origin_of, is_open, is_unended}
use Rattle.server_core.specs.Words.{Staged, is_on, last_run, last_run_after, staged_run, work, for_run, due_by, due}
use Rattle.server_core.specs.Taken.{job_state, takes, and_those, takings}
use Rattle.server_core.specs.Check.{Check, Progress, Wanting, Full, With, Refused, Done, progress_after, progress_by, check}
use Rattle.server_core.specs.Replies.{Now, number_staged, refuse, present, reply_to_text, reply_to_new_jobs, reply_to_new_start, reply_to_start}
use Rattle.server_core.specs.Replies.{state_frames, reply_to_halt, reply_to_trigger, reply_to_stop, progress_frame, check_frames_from, check_frames}
use Rattle.server_core.specs.Replies.{reply_to_check_text, reply_to_new_check, reply_to_attempt, reply_to_verify, misfit_frame, reply_to_state_for, reply_to_state, reply_to_report, replies}
use Rattle.server_core.specs.Answers.{now, packets}
use Rattle.server_core.specs.DueStart.{DueIsStart}
use Rattle.server_core.specs.Laws.{NumbersGrow, PresentIsLast}
use Rattle.server_core.specs.OpenCheck.{OpenCheckIsLast}
use Rattle.seen.proofs.ServerLemmas.{was_replied}

-- A Started is of a run up to the last, or of one that is due; a Report is of the last run.
abbrev pub IsOfRun : ℕ → ℕ → Body → Type 0
IsOfRun last upto (bodies.Started r) = r ≤ upto
IsOfRun last upto (bodies.Report r a j jobs report) = r ≡ last
IsOfRun last upto _ = Unit {0}

abbrev AllOf : ℕ → ℕ → List Body → Type 0
AllOf last upto = AllByRecursion (IsOfRun last upto)

either_of : (l u : ℕ) (b : Bool) (xs ys : List Body) → (b ≡ true → AllOf l u xs) → (b ≡ false → AllOf l u ys) → AllOf l u (if b then xs else ys)
either_of l u true xs ys f g = f refl
either_of l u false xs ys f g = g refl

text_of : (l u r : ℕ) (x : Result (List Job) ℕ) → AllOf l u (reply_to_text r x)
text_of l u r (Ok jobs) = (tt, tt)
text_of l u r (Err value) = (tt, tt)

new_jobs_of : (l u r : ℕ) (x : Option Staged) (b : Bool) (y : Result (List Job) ℕ) → AllOf l u (reply_to_new_jobs r x b y)
new_jobs_of l u r (Some s) b y = (tt, tt)
new_jobs_of l u r None true y = (tt, tt)
new_jobs_of l u r None false y = text_of l u r y

new_start_of : (l u r : ℕ) (x : Option Staged) (b : Bool) → ((s : Staged) → x ≡ Some s → b ≡ false → r ≤ u) → AllOf l u (reply_to_new_start r x b)
new_start_of l u r None b f = (tt, tt)
new_start_of l u r (Some s) true f = (tt, tt)
new_start_of l u r (Some s) false f = (f s refl refl, tt)

start_of : (n : Now) (r u : ℕ) (x : Option Work) → ((w : Work) → x ≡ Some w → r ≤ u)
    → (nat_le r n.last ≡ false → (s : Staged) → for_run r n.staged ≡ Some s → is_open n.run ≡ false → r ≤ u) → AllOf n.last u (reply_to_start n r x)
start_of n r u (Some w) f g = (f w refl, tt)
start_of n r u None f g =
    either_of n.last u (nat_le r n.last) (refuse asks.Start reasons.Old r 0 n.last) (reply_to_new_start r (for_run r n.staged) (is_open n.run)) (λ e. (tt, tt))
    (λ e. new_start_of n.last u r (for_run r n.staged) (is_open n.run) (g e))

gone_of : (l u : ℕ) (asked : RefusedRequest) (r last : ℕ) (b : Bool)
    → AllOf l u (if b then refuse asked reasons.Gone r 0 last else refuse asked reasons.Unknown r 0 last)
gone_of l u asked r last true = (tt, tt)
gone_of l u asked r last false = (tt, tt)

state_of : (l u : ℕ) (b : Bool) (jobs run j : ℕ) (state : State) → IsOfRun l u (if b then bodies.State jobs state else bodies.NoState run j jobs)
state_of l u true jobs run j state = tt
state_of l u false jobs run j state = tt

states_of : (l u : ℕ) (w : Work) (before : List Request) (j : ℕ) (jobs : List Job) → AllOf l u (state_frames w before j jobs)
states_of l u w before j [] = tt
states_of l u w before j (job ∷ jobs) =
    (state_of l u job.save (length w.jobs) w.run j (job_state (origin_of w j job) before), states_of l u w before (j + 1) jobs)

halt_of_run : (l u : ℕ) (w : Work) (last : ℕ) (x : Option Halt) → AllOf l u (reply_to_halt w last x)
halt_of_run l u w last None = states_of l u w w.since 0 w.jobs
halt_of_run l u w last (Some (Triggered act before)) = states_of l u w before 0 w.jobs
halt_of_run l u w last (Some Stopped) = (tt, tt)

trigger_of : (l u : ℕ) (n : Now) (r : ℕ) (x : Option Work) → AllOf l u (reply_to_trigger n r x)
trigger_of l u n r None = gone_of l u asks.Trigger r n.last (nat_le r n.last)
trigger_of l u n r (Some w) = halt_of_run l u w n.last (halt_of w.run w.since)

stop_of : (l u : ℕ) (n : Now) (r : ℕ) (x : Option Work) → AllOf l u (reply_to_stop n r x)
stop_of l u n r None = gone_of l u asks.Stop r n.last (nat_le r n.last)
stop_of l u n r (Some w) = (tt, tt)

progress_of : (l u : ℕ) (c : Check) (j : ℕ) (p : Progress) → c.run ≡ l → AllOf l u (progress_frame c j p)
progress_of l u c j Wanting h = (tt, tt)
progress_of l u c j Full h = tt
progress_of l u c j (With s) h = tt
progress_of l u c j (Refused value) h = (tt, tt)
progress_of l u c j (Done report) h = (h, tt)

check_of_jobs : (l u : ℕ) (c : Check) (j : ℕ) (jobs : List Job) → c.run ≡ l → AllOf l u (check_frames_from c j jobs)
check_of_jobs l u c j [] h = tt
check_of_jobs l u c j (job ∷ jobs) h =
    all_append (IsOfRun l u) (progress_frame c j (progress_after c j job c.since)) (check_frames_from c (j + 1) jobs)
    (progress_of l u c j (progress_after c j job c.since) h) (check_of_jobs l u c (j + 1) jobs h)

new_text_of : (l u : ℕ) (n : Now) (r a : ℕ) (x : Result (List Job) ℕ) → r ≡ l → AllOf l u (reply_to_check_text n r a x)
new_text_of l u n r a (Ok jobs) h = check_of_jobs l u (record { server = n.server; boot = n.boot; run = r; attempt = a; jobs = jobs; since = [] }) 0 jobs h
new_text_of l u n r a (Err value) h = (tt, tt)

new_check_of : (l u : ℕ) (n : Now) (r a : ℕ) (text : List ℕ) → r ≡ l → AllOf l u (reply_to_new_check n r a text)
new_check_of l u n r a text h =
    either_of l u (is_open n.run || is_unended n.run) (refuse asks.Verify reasons.Busy r a 0) (reply_to_check_text n r a (jobs_for Read text)) (λ e. (tt, tt))
    (λ e. new_text_of l u n r a (jobs_for Read text) h)

attempt_of : (l u : ℕ) (n : Now) (r a : ℕ) (text : List ℕ) (x : Option Check) → r ≡ l → ((c : Check) → x ≡ Some c → c.run ≡ l)
    → AllOf l u (reply_to_attempt n r a text x)
attempt_of l u n r a text None h f = new_check_of l u n r a text h
attempt_of l u n r a text (Some c) h f =
    either_of l u (nat_lt a c.attempt) (refuse asks.Verify reasons.Old r a c.attempt) (if c.attempt == a then check_frames c else reply_to_new_check n r a text)
    (λ e. (tt, tt))
    (λ e. either_of l u (c.attempt == a) (check_frames c) (reply_to_new_check n r a text) (λ k. check_of_jobs l u c 0 c.jobs (f c refl))
    (λ k. new_check_of l u n r a text h))

verify_of : (u : ℕ) (n : Now) (r a : ℕ) (text : List ℕ) → ((c : Check) → n.check ≡ Some c → c.run ≡ n.last) → AllOf n.last u (reply_to_verify n r a text)
verify_of u n r a text f =
    either_of n.last u (nat_lt n.last r) (refuse asks.Verify reasons.Unknown r a n.last)
    (if nat_lt r n.last then refuse asks.Verify reasons.Overwritten r a n.last else reply_to_attempt n r a text n.check) (λ e. (tt, tt))
    (λ e. either_of n.last u (nat_lt r n.last) (refuse asks.Verify reasons.Overwritten r a n.last) (reply_to_attempt n r a text n.check) (λ k. (tt, tt))
    (λ k. attempt_of n.last u n r a text n.check (same n.last r e k) f))
  where
    same : (x y : ℕ) → nat_lt x y ≡ false → nat_lt y x ≡ false → y ≡ x
    same x y g h = grind (arith, nat_tests)

held_of : (l u : ℕ) (c : Check) (j : ℕ) (p q : Progress) → c.run ≡ l → AllOf l u (misfit_frame c j p q)
held_of l u c j Wanting (Refused value) h = (tt, tt)
held_of l u c j Wanting Wanting h = tt
held_of l u c j Wanting Full h = tt
held_of l u c j Wanting (With s) h = tt
held_of l u c j Wanting (Done report) h = tt
held_of l u c j Full q h = tt
held_of l u c j (With s) q h = tt
held_of l u c j (Refused value) q h = tt
held_of l u c j (Done report) q h = tt

hold_for : (l u : ℕ) (c : Check) (a : ℕ) (state : State) (x : Option Job) → c.run ≡ l → AllOf l u (reply_to_state_for c a state x)
hold_for l u c a state None h = tt
hold_for l u c a state (Some job) h =
    let p = progress_after c state.key.job job c.since in held_of l u c state.key.job p (progress_by c state.key.job job (ToHold a state) p) h

hold_of : (l u a : ℕ) (state : State) (x : Option Check) → ((c : Check) → x ≡ Some c → c.run ≡ l) → AllOf l u (reply_to_state a state x)
hold_of l u a state None f = tt
hold_of l u a state (Some c) f = hold_for l u c a state (slice_get c.jobs state.key.job) (f c refl)

report_of : (l u j : ℕ) (report : ReportParts) (x : Option Check) → ((c : Check) → x ≡ Some c → c.run ≡ l) → AllOf l u (reply_to_report j report x)
report_of l u j report None f = tt
report_of l u j report (Some c) f = progress_of l u c j (Done report) (f c refl)

-- The laws of a server on which this rests.
pub record ServerLaws : Type 0 where
  pub grow : NumbersGrow
  pub last : PresentIsLast
  pub due : DueIsStart
  pub checks : OpenCheckIsLast

on_if : (b : Bool) (x : Option Fault) → (if b then x else Some Down) ≡ None → b ≡ true
on_if true x h = refl
on_if false x h = absurd cc

present_run : (r : ℕ) (x : Option Work) (w : Work) → present r x ≡ Some w → (v : Work) × (x ≡ Some v) × (v.run ≡ r)
present_run r None w h = absurd cc
present_run r (Some v) w h = (v, refl, by (v.run == r) refl h)
  where
    by : (b : Bool) → (v.run == r) ≡ b → (if b then Some v else None) ≡ Some w → v.run ≡ r
    by true e k = eqb-true v.run r e
    by false e k = absurd cc

run_found : (r : ℕ) (x : Option Staged) (s : Staged) → for_run r x ≡ Some s → s.run ≡ r
run_found r None s h = absurd cc
run_found r (Some t) s h = by (t.run == r) refl h
  where
    by : (b : Bool) → (t.run == r) ≡ b → (if b then Some t else None) ≡ Some s → s.run ≡ r
    by true e k = let same : t ≡ s = cc in ap (λ (v : Staged). v.run) (sym same) ∙ eqb-true t.run r e
    by false e k = absurd cc

started_of : ServerLaws → (o : Opening) (past : List Entry) (e : PacketInput) (left : SaveOutcome) (r : ℕ) → is_on past ≡ true → left ≡ saved_for (due o past e)
    → request_of o.me e ≡ ToStart r
    → AllOf (last_run o past) (last_run o (Met e left ∷ past)) (reply_to_start (now o past) r (present r (work o past)))
started_of laws o past e left r on saved asks =
    start_of (now o past) r (last_run o (Met e left ∷ past)) (present r (work o past))
    (λ w h. let k = present_run r (work o past) w h in let l = laws.last o past k.0 k.1 in let g = (laws.grow o (Met e left) past).0 in
    let a : k.0.run ≡ r = k.2 in let b : k.0.run ≡ last_run o past = l.run in omega (arith, a, b, g))
    (λ old s found none.
    let above : nat_lt (last_run o past) r ≡ true = higher (last_run o past) r old in
    let is : due o past e ≡ Some s =
    ap (due_by (is_on past) (last_run o past) (staged_run o past) (work o past)) asks ∙ (rw (on, above, none) found) in
    let now_last : last_run o (Met e left ∷ past) ≡ s.run =
    ap (λ v. last_run_after v (due o past e) (last_run o past)) saved ∙ ap (λ d. last_run_after (saved_for d) d (last_run o past)) is in
    let run_is : s.run ≡ r = run_found r (staged_run o past) s found in
    omega (arith, now_last, run_is))
  where
    higher : (x y : ℕ) → nat_le y x ≡ false → nat_lt x y ≡ true
    higher x y h = grind (arith, nat_tests)

replies_of : ServerLaws → (o : Opening) (past : List Entry) (e : PacketInput) (left : SaveOutcome) → is_on past ≡ true → left ≡ saved_for (due o past e)
    → (x : Request) → request_of o.me e ≡ x → AllOf (last_run o past) (last_run o (Met e left ∷ past)) (replies (now o past) x)
replies_of laws o past e left on saved (ToStage r text) is =
    either_of (last_run o past) (last_run o (Met e left ∷ past)) (nat_le r (now o past).last || nat_lt r (number_staged (now o past).staged)) _ _ (λ h. (tt, tt))
    (λ h. new_jobs_of (last_run o past) (last_run o (Met e left ∷ past)) r (for_run r (now o past).staged) (is_open (now o past).run) (jobs_for Write text))
replies_of laws o past e left on saved (ToStart r) is = started_of laws o past e left r on saved is
replies_of laws o past e left on saved (ToTrigger r act) is =
    trigger_of (last_run o past) (last_run o (Met e left ∷ past)) (now o past) r (present r (work o past))
replies_of laws o past e left on saved (ToMark r j) is = tt
replies_of laws o past e left on saved (ToStop r) is =
    stop_of (last_run o past) (last_run o (Met e left ∷ past)) (now o past) r (present r (work o past))
replies_of laws o past e left on saved (ToVerify r a text) is =
    verify_of (last_run o (Met e left ∷ past)) (now o past) r a text (λ c h. (laws.checks o past c h).run)
replies_of laws o past e left on saved (ToHold a state) is =
    hold_of (last_run o past) (last_run o (Met e left ∷ past)) a state (check o past) (λ c h. (laws.checks o past c h).run)
replies_of laws o past e left on saved (ToPassFully a j) is = tt
replies_of laws o past e left on saved (ToIssue j) is = tt
replies_of laws o past e left on saved (ToEnd ticket end) is = tt
replies_of laws o past e left on saved (ToReport b a j report) is =
    report_of (last_run o past) (last_run o (Met e left ∷ past)) j report (check o past) (λ c h. (laws.checks o past c h).run)
replies_of laws o past e left on saved ToNobody is = tt

-- A Started that is sent is of a run up to the last, and a Report of the last run.
pub sent_is_of_run : ServerLaws → (o : Opening) (past : List Entry) (e : PacketInput) (left : SaveOutcome) (p : PacketParts)
    → (is_lost left ≡ true) ⊎ (left ≡ saved_for (due o past e)) → Contains (packets o past (Met e left)) p
    → IsOfRun (last_run o past) (last_run o (Met e left ∷ past)) p.body
sent_is_of_run laws o past e left p (inl lost) h =
    let k = was_replied o past e left p h in
    let no : true ≡ false = sym lost ∙ k.0 in
    absurd cc
sent_is_of_run laws o past e left p (inr saved) h =
    let k = was_replied o past e left p h in
    let on = on_if (is_on past) _ k.1 in
    each_of (IsOfRun (last_run o past) (last_run o (Met e left ∷ past))) (replies (now o past) (request_of o.me e)) p.body
    (replies_of laws o past e left on saved (request_of o.me e) refl) k.2

-- ---- what was taken

pub takings_stay : (o : Opening) (run j : ℕ) (newer older : List Entry) (state : State) → Contains (takings o run j older) state
    → Contains (takings o run j (newer ++ older)) state
takings_stay o run j [] older state h = h
takings_stay o run j (Met e left ∷ newer) older state h =
    among (takes run j (request_of o.me e) (work o (newer ++ older))) (takings o run j (newer ++ older)) (takings_stay o run j newer older state h)
  where
    among : (x : Option State) (states : List State) → Contains states state → Contains (and_those x states) state
    among None states k = k
    among (Some y) states k = behind_one y states state k
takings_stay o run j (Cut ∷ newer) older state h = takings_stay o run j newer older state h
takings_stay o run j (Restart left ∷ newer) older state h = takings_stay o run j newer older state h

-- The last run doesn't fall.
pub last_grows : NumbersGrow → (o : Opening) (newer older : List Entry) → last_run o older ≤ last_run o (newer ++ older)
last_grows grow o [] older = omega arith
last_grows grow o (e ∷ newer) older =
    let a = last_grows grow o newer older in
    let b = (grow o e (newer ++ older)).0 in
    omega (arith, a, b)
