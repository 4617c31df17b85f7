-- Each check of a world answers the exact report.
use Rattle.std.proofs.Common.{◌≡◌, refl, sym, ◌∙◌, ap, ℕ, List, Option, Some, None, Result, Ok, Err}
use Rattle.std.specs.Prelude.{slice_get}
use Rattle.fc_base.specs.declared.fault.Fault.{Fault}
use Rattle.fc_base.specs.declared.report.ReportParts.{ReportParts}
use Rattle.job_file.specs.declared.job.Job.{Job}
use Rattle.verify_state.specs.State.{State}
use Rattle.server_core.specs.Inputs.{PacketInput as ServerEvent}
use Rattle.server_core.specs.declared.input.Input.TheVariants.{CheckDone}
use Rattle.server_core.specs.History.{Opening, Entry}
use Rattle.server_core.specs.Check.{Check, Progress, Wanting, Full, With, Refused, Done, check, progress, progress_in, progress_at, progress_after}
use Rattle.net_world.specs.Happenings.{Happening}
use Rattle.net_world.specs.Happenings as happenings
use Rattle.net_world.specs.declared.told.WorldAnswer.TheVariants.{Checked}
use Rattle.net_world.specs.declared.told.Told.{Told}
use Rattle.net_world.specs.Setup.{Setup}
use Rattle.net_world.specs.Trace.{Step, opening_of, of_server, IsTrace}
use Rattle.net_world.specs.Changes.{Change, steps, trace}
use Rattle.net_world.specs.Contents.{content}
use Rattle.net_world.specs.Checks.{key_of, report_of, report_by, report_for, check_end, end_of_check_in, end_of_check}
use Rattle.net_world.specs.Outcomes.{Outcome, Does, Refuses, Drops, outcome_of_step, end_of_check_met, unless_barred, brings, outcome}
use Rattle.net_world.specs.Barred.{barring_fault}
use Rattle.net_world.specs.Frames.{FrameStep, frames_sent}
use Rattle.net_world.specs.World.{world, answer, report_in, told_by, told_of_happening}
use Rattle.net_world.specs.WorldLaws.{EachWorldIsATrace}
use Rattle.net_world.specs.Exact.{IsMadeWith, IsExact}
use Rattle.net_world.specs.Claims.{OfEachTrace, OfEachWorld}
use Rattle.net_world.specs.Headline.{QuietUntilTheCheck, ExactReports}

-- What is told answers what the event answers.
told_ok : (w : Setup) (past : List Change) (e : Happening) (r : Outcome) (t : Told) → told_by w past e r ≡ Ok t
    → (h : Change) × (r ≡ Does h) × (t.answer ≡ answer w past e)
told_ok w past e (Refuses fault) t h = absurd cc
told_ok w past e (Drops step) t h = absurd cc
told_ok w past e (Does change) t h = (change, refl, ap (λ (x : Told). x.answer) (sym (the_ok h)))
  where
    the_ok : {X Y : Type 0} {x y : X} → ◌≡◌ {A = Result X Y} (Ok x) (Ok y) → x ≡ y
    the_ok h = cc

unless_does : (x : Option Fault) (r : Outcome) (y : Change) → unless_barred x r ≡ Does y → r ≡ Does y
unless_does None r y h = h
unless_does (Some fault) r y h = absurd cc

stepped_ok : (r : Result FrameStep Fault) (y : Change) → outcome_of_step r ≡ Does y → (step : FrameStep) × (r ≡ Ok step)
stepped_ok (Ok step) y h = (step, refl)
stepped_ok (Err fault) y h = absurd cc

checks_ok : (t : List Step) (s : ℕ) (x : Option ServerEvent) (step : FrameStep) → end_of_check_met t s x ≡ Ok step → (e : ServerEvent) × (x ≡ Some e)
checks_ok t s None step h = absurd cc
checks_ok t s (Some e) step h = (e, refl)

-- What is known of the check before it is made.
abbrev pub with_or_full : Option State → Progress
with_or_full None = Full
with_or_full (Some state) = With state

-- A job that is ready, and the event that ends its check.
record Ready (c : Check) (j : ℕ) (held : ℕ → List ℕ) (x : Option Job) (e : ServerEvent) : Type 0 where
  pub job : Job
  pub has_job : x ≡ Some job
  pub state : Option State
  pub made : progress_after c j job c.since ≡ with_or_full state
  pub event : e ≡ CheckDone c.boot c.attempt j (report_of (key_of c j) job state held)

ready_by : (c : Check) (j : ℕ) (held : ℕ → List ℕ) (job : Job) (p : Progress) (e : ServerEvent) → progress_after c j job c.since ≡ p
    → check_end c j (report_by c j job p held) ≡ Some e → Ready c j held (Some job) e
ready_by c j held job Wanting e m h = absurd cc
ready_by c j held job Full e m h = record { job = job; has_job = refl; state = None; made = m; event = the_some (sym h) }
  where
    the_some : {X : Type 0} {x y : X} → Some x ≡ Some y → x ≡ y
    the_some h = cc
ready_by c j held job (With state) e m h = record { job = job; has_job = refl; state = Some state; made = m; event = the_some (sym h) }
  where
    the_some : {X : Type 0} {x y : X} → Some x ≡ Some y → x ≡ y
    the_some h = cc
ready_by c j held job (Refused value) e m h = absurd cc
ready_by c j held job (Done r) e m h = absurd cc

ready_for : (c : Check) (j : ℕ) (held : ℕ → List ℕ) (x : Option Job) (e : ServerEvent) → check_end c j (report_for c j x held) ≡ Some e → Ready c j held x e
ready_for c j held None e h = absurd cc
ready_for c j held (Some job) e h = ready_by c j held job (progress_after c j job c.since) e refl h

ready : (x : Option Check) (j : ℕ) (held : ℕ → List ℕ) (e : ServerEvent) → end_of_check_in x j held ≡ Some e
    → (c : Check) × (x ≡ Some c) × Ready c j held (slice_get c.jobs j) e
ready None j held e h = absurd cc
ready (Some c) j held e h = (c, refl, ready_for c j held (slice_get c.jobs j) e h)

pub progress_is : (o : Opening) (list : List Entry) (j : ℕ) (c : Check) (job : Job) (p : Progress) → check o list ≡ Some c → slice_get c.jobs j ≡ Some job
    → progress_after c j job c.since ≡ p → progress o list j ≡ Some p
progress_is o list j c job p a b h = ap (λ x. progress_in x j) a ∙ ap (progress_at c j) b ∙ ap Some h

pub made_with : OfEachTrace QuietUntilTheCheck → (w : Setup) (t : List Step) (s j : ℕ) (x : Option State) → IsTrace w t
    → progress (opening_of s) (of_server s t) j ≡ Some (with_or_full x) → IsMadeWith s j (of_server s t) x
made_with quiet w t s j None trace h = h
made_with quiet w t s j (Some state) trace h = (h, quiet w t trace s j state h)

-- A check that isn't refused met the end of the check of a job that is ready.
record Made (w : Setup) (past : List Change) (s j : ℕ) (t : Told) : Type 0 where
  pub now : Check
  pub is_open : check (opening_of s) (of_server s (trace w past)) ≡ Some now
  pub event : ServerEvent
  pub ready : Ready now j (content w past s j) (slice_get now.jobs j) event
  pub answer : t.answer ≡ report_in (Some event)

made : (w : Setup) (past : List Change) (s j : ℕ) (t : Told) → told_of_happening w past (happenings.Check s j) ≡ Ok t → Made w past s j t
made w past s j t h =
    let a = told_ok w past (happenings.Check s j) (outcome w past (happenings.Check s j)) t h in
    let b = stepped_ok (end_of_check_met (trace w past) s (end_of_check w past s j)) a.0
    (unless_does (barring_fault w (trace w past) (frames_sent w (steps past)) (happenings.Check s j)) (brings w past (happenings.Check s j)) a.0 a.1) in
    let d = checks_ok (trace w past) s (end_of_check w past s j) b.0 b.1 in
    let k = ready (check (opening_of s) (of_server s (trace w past))) j (content w past s j) d.0 d.1 in
    record { now = k.0; is_open = k.1; event = d.0; ready = k.2; answer = a.2 ∙ ap report_in d.1 }

answer_of : (c : Check) (j : ℕ) (held : ℕ → List ℕ) (x : Option Job) (e : ServerEvent) → (r : Ready c j held x e)
    → report_in (Some e) ≡ Checked (report_of (key_of c j) r.job r.state held)
answer_of c j held x e r = ap (λ f. report_in (Some f)) r.event

exact : OfEachTrace QuietUntilTheCheck → (w : Setup) (past : List Change) (s j : ℕ) (t : Told) → IsTrace w (trace w past) → Made w past s j t
    → (r : ReportParts) × (t.answer ≡ Checked r) × IsExact w past s j r
exact quiet w past s j t tr m =
    let o = opening_of s in
    let list = of_server s (trace w past) in
    let r = m.ready in
    let report = report_of (key_of m.now j) r.job r.state (content w past s j) in (
      report,
      m.answer ∙ answer_of m.now j (content w past s j) (slice_get m.now.jobs j) m.event r,
      record {
        now = m.now;
        is_open = m.is_open;
        job = r.job;
        has_job = r.has_job;
        state = r.state;
        made = made_with quiet w (trace w past) s j r.state tr (progress_is o list j m.now r.job (with_or_full r.state) m.is_open r.has_job r.made);
        report = refl;
      },
    )

pub checks_are_exact : EachWorldIsATrace → OfEachTrace QuietUntilTheCheck → OfEachWorld ExactReports
checks_are_exact traces quiet w events few s j t h = exact quiet w (world w events) s j t (traces w events few) (made w (world w events) s j t h)
