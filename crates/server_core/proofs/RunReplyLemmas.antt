-- What is replied to Jobs, Start, Trigger and Stop is in its ranges.
use Rattle.std.proofs.Common.{◌≡◌, refl, sym, subst, ℕ, ◌+◌, ◌^◌, ◌<◌, arith, Bool, true, false, ◌==◌, List, [], ◌∷◌, length, Option, None, Some}
use Rattle.std.specs.Prelude.{if◌then◌else◌, nat_le, max, Result, Ok, Err, IsTrue}
use Rattle.std.specs.List.{AllByRecursion}
use Rattle.std.proofs.lemmas.Bool.{and_from}
use Rattle.fc_base.specs.JobParts.{is_within_limits}
use Rattle.job_file.specs.declared.job.Job.{Job}
use Rattle.job_file.specs.Laws.{FitsItsWidths}
use Rattle.verify_state.specs.State.{State as SavedState}
use Rattle.messages.specs.declared.body.Body.TheVariants as bodies
use Rattle.messages.specs.declared.refusal.RefusedRequest.TheVariants as asks
use Rattle.messages.specs.declared.refusal.Reason.TheVariants as reasons
use Rattle.messages.specs.Ranges.{is_run, is_job_of}
use Rattle.server_core.specs.Request.{Request}
use Rattle.server_core.specs.Run.{Work, Halt, Triggered, Stopped, halt_of, origin_of, is_open}
use Rattle.server_core.specs.Words.{Staged, for_run}
use Rattle.server_core.specs.Taken.{job_state}
use Rattle.server_core.specs.Replies.{Now, number_staged, reply_to_text, reply_to_new_jobs, present, reply_to_new_start}
use Rattle.server_core.specs.Replies.{reply_to_start, state_frame, state_frames, reply_to_halt, reply_to_trigger, reply_to_stop}
use Rattle.server_core.specs.Laws.{IsSet}
use Rattle.server_core.proofs.StateLemmas.{run_below, state_fits}
use Rattle.server_core.proofs.SetLemmas.{SomeStaged}
use Rattle.server_core.proofs.RangeLemmas.{TextFits, InRun}
use Rattle.server_core.proofs.BodyLemmas.{Below, RunFits, SomeRun, BodyFits, Fit, fit_if, word, jobs_number, one_of, job_number, refuse_fits, gone_fits}

jobs_ok : (r : ℕ) (js : List Job) → is_run r ≡ true → IsSet js → Fit (bodies.JobsOk r (length js) ∷ [])
jobs_ok r js h s = ((and_from _ _ h (jobs_number js s), tt), tt)

text_reply : (r : ℕ) (t : Result (List Job) ℕ) → is_run r ≡ true → TextFits t → Fit (reply_to_text r t)
text_reply r (Ok js) h k = jobs_ok r js h k
text_reply r (Err value) h k = refuse_fits asks.Jobs reasons.BadJobs r 0 value h k refl refl

pub new_jobs_reply : (r : ℕ) (s : Option Staged) (busy : Bool) (t : Result (List Job) ℕ) → is_run r ≡ true → SomeStaged InRun s → TextFits t
    → Fit (reply_to_new_jobs r s busy t)
new_jobs_reply r (Some s) busy t h k f = jobs_ok r s.jobs h k.jobs
new_jobs_reply r None busy t h k f = fit_if busy _ _ (refuse_fits asks.Jobs reasons.Busy r 0 0 h refl refl refl) (text_reply r t h f)

pub staged_below : (s : Option Staged) → SomeStaged InRun s → number_staged s < 2 ^ 64
staged_below None h = omega arith
staged_below (Some s) h = run_below s.run h.run

pub greater_below : (a b : ℕ) → a < 2 ^ 64 → b < 2 ^ 64 → max a b < 2 ^ 64
greater_below a b h k = omega arith

new_start_reply : (r : ℕ) (s : Option Staged) (busy : Bool) → is_run r ≡ true → Fit (reply_to_new_start r s busy)
new_start_reply r None busy h = refuse_fits asks.Start reasons.NoJobs r 0 0 h refl refl refl
new_start_reply r (Some s) busy h = fit_if busy _ _ (refuse_fits asks.Start reasons.Busy r 0 0 h refl refl refl) ((h, tt), tt)

pub start_reply : (n : Now) (r : ℕ) (w : Option Work) → is_run r ≡ true → n.last < 2 ^ 64 → Fit (reply_to_start n r w)
start_reply n r (Some w) h l = ((h, tt), tt)
start_reply n r None h l = fit_if (nat_le r n.last) _ _ (refuse_fits asks.Start reasons.Old r 0 n.last h (word n.last l) refl refl)
    (new_start_reply r (for_run r n.staged) (is_open n.run) h)

-- ---- Trigger and Stop

one_frame : (save : Bool) (state : SavedState) (run j jobs : ℕ) → BodyFits (bodies.State jobs state) → BodyFits (bodies.NoState run j jobs)
    → BodyFits (if save then bodies.State jobs state else bodies.NoState run j jobs)
one_frame true state run j jobs h k = h
one_frame false state run j jobs h k = k

its_job : (w : Work) (j : ℕ) (job : Job) (before : List Request) → (job_state (origin_of w j job) before).key.job ≡ j
unfolding job_state
its_job w j job before = refl

frame_fits : Below → (w : Work) (j : ℕ) (job : Job) (before : List Request) → RunFits w → j < length w.jobs → is_within_limits job.rec ≡ true
    → FitsItsWidths job → BodyFits (state_frame w j job before)
frame_fits below w j job before k l limits widths =
    let one = one_of w.jobs j k.jobs l in
    one_frame job.save (job_state (origin_of w j job) before) w.run j (length w.jobs) (
      subst (λ i. is_job_of i (length w.jobs) ≡ true) (sym (its_job w j job before)) one,
      state_fits below.legal below.possible w j job before k.run k.server (job_number w.jobs j k.jobs l) limits widths,
    )
    (and_from _ _ k.run one, tt)

frames_fit : Below → (w : Work) (before : List Request) (j : ℕ) (jobs : List Job) → RunFits w → j + length jobs ≡ length w.jobs
    → AllByRecursion (λ job. IsTrue (is_within_limits job.rec)) jobs → AllByRecursion FitsItsWidths jobs → Fit (state_frames w before j jobs)
frames_fit below w before j [] k e limits widths = tt
frames_fit below w before j (job ∷ jobs) k e limits widths =
    (frame_fits below w j job before k (omega arith) limits.0 widths.0, frames_fit below w before (j + 1) jobs k (omega arith) limits.1 widths.1)

all_frames : Below → (w : Work) (before : List Request) → RunFits w → Fit (state_frames w before 0 w.jobs)
all_frames below w before k = frames_fit below w before 0 w.jobs k (omega arith) k.jobs.within.within k.jobs.widths

halt_reply : Below → (w : Work) (last : ℕ) (halt : Option Halt) → RunFits w → last < 2 ^ 64 → Fit (reply_to_halt w last halt)
halt_reply below w last None k l = all_frames below w w.since k
halt_reply below w last (Some (Triggered act before)) k l = all_frames below w before k
halt_reply below w last (Some Stopped) k l = refuse_fits asks.Trigger reasons.Gone w.run 0 last k.run (word last l) refl refl

present_reply : Below → (r : ℕ) (t : Bool) (n : Now) (w : Work) → is_run r ≡ true → RunFits w → n.last < 2 ^ 64
    → Fit (reply_to_trigger n r (if t then Some w else None))
present_reply below r true n w h k l = halt_reply below w n.last (halt_of w.run w.since) k l
present_reply below r false n w h k l = gone_fits asks.Trigger r n.last h l refl

pub trigger_reply : Below → (n : Now) (r : ℕ) (w : Option Work) → is_run r ≡ true → SomeRun w → n.last < 2 ^ 64 → Fit (reply_to_trigger n r (present r w))
trigger_reply below n r None h k l = gone_fits asks.Trigger r n.last h l refl
trigger_reply below n r (Some w) h k l = present_reply below r (w.run == r) n w h k l

pub stop_reply : (n : Now) (r : ℕ) (w : Option Work) → is_run r ≡ true → n.last < 2 ^ 64 → Fit (reply_to_stop n r w)
stop_reply n r (Some w) h l = ((h, tt), tt)
stop_reply n r None h l = gone_fits asks.Stop r n.last h l refl
