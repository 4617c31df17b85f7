-- Each report that is kept, and each that is sent, is of a check that was done.
use Rattle.std.proofs.Common.{◌≡◌, refl, sym, ◌∙◌, ap, subst, ◌⊎◌, inl, inr, ℕ, Bool, true, false, ◌&&◌, ◌==◌, List, [], ◌∷◌, Option, None, Some}
use Rattle.std.specs.Prelude.{if◌then◌else◌, not, slice_get}
use Rattle.std.proofs.lemmas.Bool.{eqb-true, eq-eqb, and_parts}
use Rattle.fc_base.specs.declared.fault.Fault.{Fault}
use Rattle.fc_base.specs.declared.report.ReportParts.{ReportParts}
use Rattle.job_file.specs.declared.job.Job.{Job}
use Rattle.verify_state.specs.State.{State as SavedState}
use Rattle.messages.specs.declared.body.Body.{Body}
use Rattle.messages.specs.declared.body.Body.TheVariants as bodies
use Rattle.messages.specs.Nodes.{is_client, is_server}
use Rattle.disk_model.specs.SaveOutcome.{is_lost}
use Rattle.disk_model.specs.declared.save_outcome.SaveOutcome.{SaveOutcome}
use Rattle.disk_model.specs.declared.save_outcome.SaveOutcome.TheVariants.{NoSave, Saved, LostNew, LostOld}
use Rattle.server_core.specs.Inputs.{PacketInput}
use Rattle.server_core.specs.declared.input.Input.TheVariants.{Deliver, Issue, WriteDone, CheckDone}
use Rattle.server_core.specs.History.{Opening, Entry, Met, Cut, Restart}
use Rattle.server_core.specs.Request.{Request, ToStage, ToStart, ToTrigger, ToMark, ToStop, ToVerify}
use Rattle.server_core.specs.Request.{ToHold, ToPassFully, ToIssue, ToEnd, ToReport, ToNobody, request_in, request_of}
use Rattle.server_core.specs.Run.{Work}
use Rattle.server_core.specs.Words.{Staged, is_on, boot, last_run, work, due}
use Rattle.server_core.specs.Check.{Check, Progress, Wanting, Full, With, Refused, Done, progress_with_state, progress_without_state}
use Rattle.server_core.specs.Check.{progress_with_report, progress_by, progress_at_first, progress_after, progress_at, progress_in}
use Rattle.server_core.specs.Check.{opens, check_goes_on, or_opened, check_after, check}
use Rattle.server_core.specs.Answers.{refusal, refused_by, is_ready, is_open_attempt}
use Rattle.server_core.specs.Made.{WasMade}
use Rattle.server_core.proofs.CheckedLemmas.{and_then}
use Rattle.server_core.proofs.HeldLemmas.{IsOf, Of, check_of}
use Rattle.server_core.proofs.HeardLemmas.{Fresh, opens_fresh}

-- ---- a job whose check is done was done by a report

-- One more request makes a job done with this report, where it was so far.
record IsReport (c : Check) (j : ℕ) (x : Request) (p : Progress) (r : ReportParts) : Type 0 where
  pub asked : x ≡ ToReport c.boot c.attempt j r
  pub ready : is_ready (Some p) ≡ true

held_done : (m : Option Fault) (s : SavedState) (p : Progress) (r : ReportParts) → progress_with_state m s p ≡ Done r → p ≡ Done r
held_done None s Wanting r h = cc
held_done (Some fault) s Wanting r h = cc
held_done m s Full r h = cc
held_done m s (With t) r h = cc
held_done m s (Refused value) r h = cc
held_done m s (Done report) r h = h

passed_done : (p : Progress) (r : ReportParts) → progress_without_state p ≡ Done r → p ≡ Done r
passed_done Wanting r h = cc
passed_done Full r h = cc
passed_done (With t) r h = cc
passed_done (Refused value) r h = cc
passed_done (Done report) r h = h

done_if : (t : Bool) (new old : Progress) (r : ReportParts) → (new ≡ Done r → old ≡ Done r) → (if t then new else old) ≡ Done r → old ≡ Done r
done_if true new old r f h = f h
done_if false new old r f h = h

reported : (q r : ReportParts) (p : Progress) → progress_with_report q p ≡ Done r → (p ≡ Done r) ⊎ ((is_ready (Some p) ≡ true) × (q ≡ r))
reported q r Wanting h = cc
reported q r Full h = inr (refl, cc)
reported q r (With s) h = inr (refl, cc)
reported q r (Refused value) h = cc
reported q r (Done report) h = inl h

same_request : (b a i : ℕ) (q : ReportParts) (c d j : ℕ) (r : ReportParts) → b ≡ c → a ≡ d → i ≡ j → q ≡ r → ToReport b a i q ≡ ToReport c d j r
same_request b a i q c d j r e f g h = cc

report_cases : (c : Check) (j : ℕ) (b a i : ℕ) (q r : ReportParts) (p : Progress) (t : Bool) → ((b == c.boot) && ((a == c.attempt) && (i == j))) ≡ t
    → (if t then progress_with_report q p else p) ≡ Done r → (p ≡ Done r) ⊎ IsReport c j (ToReport b a i q) p r
report_cases c j b a i q r p false e h = inl h
report_cases c j b a i q r p true e h =
    let x = and_parts (b == c.boot) ((a == c.attempt) && (i == j)) e in
    let y = and_parts (a == c.attempt) (i == j) x.1 in
    elim (reported q r p h) [
      | inl k ↦ inl k
      | inr k ↦ inr (record {
        asked = same_request b a i q c.boot c.attempt j r (eqb-true b c.boot x.0) (eqb-true a c.attempt y.0) (eqb-true i j y.1) k.1;
        ready = k.0;
      })
    ]

done_by : (c : Check) (j : ℕ) (job : Job) (x : Request) (p : Progress) (r : ReportParts) → progress_by c j job x p ≡ Done r
    → (p ≡ Done r) ⊎ IsReport c j x p r
done_by c j job (ToHold a state) p r h = inl (done_if _ _ p r (held_done _ state p r) h)
done_by c j job (ToPassFully a i) p r h = inl (done_if _ _ p r (passed_done p r) h)
done_by c j job (ToReport b a i q) p r h = report_cases c j b a i q r p ((b == c.boot) && ((a == c.attempt) && (i == j))) refl h
done_by c j job (ToStage run text) p r h = inl h
done_by c j job (ToStart run) p r h = inl h
done_by c j job (ToTrigger run act) p r h = inl h
done_by c j job (ToMark run i) p r h = inl h
done_by c j job (ToStop run) p r h = inl h
done_by c j job (ToVerify run a text) p r h = inl h
done_by c j job (ToIssue i) p r h = inl h
done_by c j job (ToEnd ticket end) p r h = inl h
done_by c j job ToNobody p r h = inl h

not_done_at_first : (load : Bool) (r : ReportParts) → progress_at_first load ≡ Done r → ⊥
not_done_at_first true r h = cc
not_done_at_first false r h = cc

-- How far a job is doesn't hang on what else was asked.
same_by : (c : Check) (y x : Request) (j : ℕ) (job : Job) (p : Progress) → progress_by (and_then c y) j job x p ≡ progress_by c j job x p
same_by c y (ToHold a state) j job p = refl
same_by c y (ToPassFully a i) j job p = refl
same_by c y (ToReport b a i q) j job p = refl
same_by c y (ToStage run text) j job p = refl
same_by c y (ToStart run) j job p = refl
same_by c y (ToTrigger run act) j job p = refl
same_by c y (ToMark run i) j job p = refl
same_by c y (ToStop run) j job p = refl
same_by c y (ToVerify run a text) j job p = refl
same_by c y (ToIssue i) j job p = refl
same_by c y (ToEnd ticket end) j job p = refl
same_by c y ToNobody j job p = refl

same_after : (c : Check) (y : Request) (j : ℕ) (job : Job) (since : List Request) → progress_after (and_then c y) j job since ≡ progress_after c j job since
same_after c y j job [] = refl
same_after c y j job (x ∷ since) =
    same_by c y x j job (progress_after (and_then c y) j job since) ∙ ap (progress_by c j job x) (same_after c y j job since)

-- ---- what asks for it is the end of a check

no_report_in : (b a j : ℕ) (r : ReportParts) (body : Body) → request_in body ≡ ToReport b a j r → ⊥
no_report_in b a j r (bodies.Jobs run text) h = cc
no_report_in b a j r (bodies.Start run) h = cc
no_report_in b a j r (bodies.Trigger run act) h = cc
no_report_in b a j r (bodies.StateAck run job) h = cc
no_report_in b a j r (bodies.Stop run) h = cc
no_report_in b a j r (bodies.Verify run attempt text) h = cc
no_report_in b a j r (bodies.Saved attempt state) h = cc
no_report_in b a j r (bodies.NoSaved run attempt job) h = cc
no_report_in b a j r _ h = cc

no_report_if : (t : Bool) (b a j : ℕ) (r : ReportParts) (body : Body) → (if t then request_in body else ToNobody) ≡ ToReport b a j r → ⊥
no_report_if true b a j r body h = no_report_in b a j r body h
no_report_if false b a j r body h = cc

pub is_check_done : (me : ℕ) (e : PacketInput) (b a j : ℕ) (r : ReportParts) → request_of me e ≡ ToReport b a j r → e ≡ CheckDone b a j r
is_check_done me (Deliver p) b a j r h = absurd (no_report_if (is_client p.from && is_server me p.to) b a j r p.body h)
is_check_done me (Issue i) b a j r h = cc
is_check_done me (WriteDone ticket end) b a j r h = cc
is_check_done me (CheckDone x y z q) b a j r h = cc

-- ---- the end of a check of a job that is ready is accepted

-- A server that has a check open is on.
abbrev OnWith : Bool → Option Check → Type 0
OnWith on None = Unit {0}
OnWith on (Some c) = on ≡ true

opened_on : (on t : Bool) (c : Option Check) → OnWith on (if on && t then c else None)
opened_on true true None = tt
opened_on true true (Some c) = refl
opened_on true false c = tt
opened_on false t c = tt

opens_on : (on : Bool) (me b last : ℕ) (w : Option Work) (old : Option Check) (x : Request) → OnWith on (opens on me b last w old x)
opens_on on me b last w old (ToVerify r a text) = opened_on on _ _
opens_on on me b last w old (ToStage r text) = tt
opens_on on me b last w old (ToStart r) = tt
opens_on on me b last w old (ToTrigger r act) = tt
opens_on on me b last w old (ToMark r j) = tt
opens_on on me b last w old (ToStop r) = tt
opens_on on me b last w old (ToHold a state) = tt
opens_on on me b last w old (ToPassFully a j) = tt
opens_on on me b last w old (ToIssue j) = tt
opens_on on me b last w old (ToEnd ticket end) = tt
opens_on on me b last w old (ToReport x a j report) = tt
opens_on on me b last w old ToNobody = tt

goes_on_with : (on : Bool) (x : Request) (new old : Option Check) → OnWith on new → OnWith on old → OnWith (on && true) (or_opened new (check_goes_on x old))
goes_on_with on x (Some c) old n h = rw n refl
goes_on_with on x None None n h = tt
goes_on_with on x None (Some c) n h = rw h refl

on_after : (on : Bool) (left : SaveOutcome) (d : Option Staged) (new old : Option Check) (x : Request) → OnWith on new → OnWith on old
    → OnWith (on && not (is_lost left)) (check_after left d new x old)
on_after on NoSave d new old x n h = goes_on_with on x new old n h
on_after on Saved None new old x n h = goes_on_with on x new old n h
on_after on Saved (Some s) new old x n h = tt
on_after on LostNew d new old x n h = tt
on_after on LostOld d new old x n h = tt

on_of : (o : Opening) (past : List Entry) → OnWith (is_on past) (check o past)
on_of o [] = tt
on_of o (Met e left ∷ past) =
    on_after (is_on past) left (due o past e) (opens (is_on past) o.me (boot o past) (last_run o past) (work o past) (check o past) (request_of o.me e))
    (check o past) (request_of o.me e)
    (opens_on (is_on past) o.me (boot o past) (last_run o past) (work o past) (check o past) (request_of o.me e)) (on_of o past)
on_of o (Cut ∷ past) = tt
on_of o (Restart left ∷ past) = tt

checks_on : (o : Opening) (past : List Entry) (c : Check) → check o past ≡ Some c → is_on past ≡ true
checks_on o past c h = subst (λ v. OnWith (is_on past) v) h (on_of o past)

of_open : (o : Opening) (past : List Entry) (c : Check) → check o past ≡ Some c → IsOf o.me (boot o past) (last_run o past) c
of_open o past c h = subst (Of o.me (boot o past) (last_run o past)) h (check_of o past)

unrefused : (s t : Bool) → s ≡ true → t ≡ true → refused_by s t ≡ None
unrefused s t e f = rw (e, f) refl

two : (s t : Bool) → s ≡ true → t ≡ true → (s && t) ≡ true
two s t e f = rw (e, f) refl

-- The end of a check of a job that is ready isn't refused.
accepts : (o : Opening) (past : List Entry) (c : Check) (j : ℕ) (job : Job) (r : ReportParts) → check o past ≡ Some c → slice_get c.jobs j ≡ Some job
    → is_ready (Some (progress_after c j job c.since)) ≡ true → refusal o past (CheckDone c.boot c.attempt j r) ≡ None
accepts o past c j job r is at ready =
    let on : is_on past ≡ true = checks_on o past c is in
    let here : (c.boot == boot o past) ≡ true = eq-eqb c.boot (boot o past) (of_open o past c is).boot_is in
    let attempt : is_open_attempt c.attempt (check o past) ≡ true = ap (is_open_attempt c.attempt) is ∙ eq-eqb c.attempt c.attempt refl in
    let far : is_ready (progress_in (check o past) j) ≡ true = ap (λ x. is_ready (progress_in x j)) is ∙ ap (λ x. is_ready (progress_at c j x)) at ∙ ready in
    rw on (unrefused (c.boot == boot o past) (is_open_attempt c.attempt (check o past) && is_ready (progress_in (check o past) j)) here
    (two (is_open_attempt c.attempt (check o past)) (is_ready (progress_in (check o past) j)) attempt far))

-- ---- so each job that is done was done by one

pub made_now : (o : Opening) (e : PacketInput) (left : SaveOutcome) (past : List Entry) (c : Check) (b a j : ℕ) (r : ReportParts) → e ≡ CheckDone b a j r
    → check o past ≡ Some c → c.attempt ≡ a → refusal o past (CheckDone b a j r) ≡ None → WasMade o (Met e left ∷ past) c.run a j r
made_now o e left past c b a j r is opened tried fine =
    record { newer = []; boot = b; left = left; older = past; split = ap (λ f. Met f left ∷ past) is; now = c; is_open = opened; run_is = refl; attempt_is = tried; accepted = fine }

pub still_made : (o : Opening) (e : Entry) (list : List Entry) (run a j : ℕ) (r : ReportParts) → WasMade o list run a j r → WasMade o (e ∷ list) run a j r
still_made o e list run a j r m = record {
  newer = e ∷ m.newer;
  boot = m.boot;
  left = m.left;
  older = m.older;
  split = ap (λ (l : List Entry). e ∷ l) m.split;
  now = m.now;
  is_open = m.is_open;
  run_is = m.run_is;
  attempt_is = m.attempt_is;
  accepted = m.accepted;
}

-- Each job of the check that is done was done by a report in this list.
abbrev pub MadeIn : Opening → List Entry → Option Check → Type 0
MadeIn o list None = Unit {0}
MadeIn o list (Some c) =
    (j : ℕ) (job : Job) (r : ReportParts) → slice_get c.jobs j ≡ Some job → progress_after c j job c.since ≡ Done r → WasMade o list c.run c.attempt j r

pub fresh_made : (o : Opening) (list : List Entry) (c : Check) → c.since ≡ [] → MadeIn o list (Some c)
fresh_made o list c none = λ j job r at h. absurd (not_done_at_first job.load r (sym (ap (progress_after c j job) none) ∙ h))

one_more : (o : Opening) (e : PacketInput) (left : SaveOutcome) (past : List Entry) (c : Check) → check o past ≡ Some c → MadeIn o past (Some c)
    → MadeIn o (Met e left ∷ past) (Some (and_then c (request_of o.me e)))
one_more o e left past c is m = λ j job r at h.
    let x = request_of o.me e in
    let p = progress_after c j job c.since in
    let h' : progress_by c j job x p ≡ Done r =
    sym (same_by c x x j job (progress_after (and_then c x) j job c.since) ∙ ap (progress_by c j job x) (same_after c x j job c.since)) ∙ h in
    elim (done_by c j job x p r h') [
      | inl k ↦ still_made o (Met e left) past c.run c.attempt j r (m j job r at k)
      | inr k ↦ made_now o e left past c c.boot c.attempt j r (is_check_done o.me e c.boot c.attempt j r k.asked) is refl
          (accepts o past c j job r is at k.ready)
    ]

on_made : (o : Opening) (e : PacketInput) (left : SaveOutcome) (past : List Entry) (new old : Option Check) → Fresh new → check o past ≡ old → MadeIn o past old
    → MadeIn o (Met e left ∷ past) (or_opened new (check_goes_on (request_of o.me e) old))
on_made o e left past (Some c) old f is m = fresh_made o (Met e left ∷ past) c f
on_made o e left past None None f is m = tt
on_made o e left past None (Some c) f is m = one_more o e left past c is m

after_made : (o : Opening) (e : PacketInput) (left was : SaveOutcome) (d : Option Staged) (past : List Entry) (new old : Option Check) → Fresh new
    → check o past ≡ old → MadeIn o past old → MadeIn o (Met e was ∷ past) (check_after left d new (request_of o.me e) old)
after_made o e NoSave was d past new old f is m = on_made o e was past new old f is m
after_made o e Saved was None past new old f is m = on_made o e was past new old f is m
after_made o e Saved was (Some s) past new old f is m = tt
after_made o e LostNew was d past new old f is m = tt
after_made o e LostOld was d past new old f is m = tt

pub made_in : (o : Opening) (past : List Entry) → MadeIn o past (check o past)
made_in o [] = tt
made_in o (Met e left ∷ past) =
    after_made o e left left (due o past e) past
    (opens (is_on past) o.me (boot o past) (last_run o past) (work o past) (check o past) (request_of o.me e)) (check o past)
    (opens_fresh (is_on past) o.me (boot o past) (last_run o past) (work o past) (check o past) (request_of o.me e)) refl (made_in o past)
made_in o (Cut ∷ past) = tt
made_in o (Restart left ∷ past) = tt
