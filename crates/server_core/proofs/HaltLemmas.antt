-- What is kept of a run behind its Trigger, its Stop, and the marks of its jobs.
use Rattle.std.proofs.Common.{◌≡◌, refl, sym, ap, ◌∙◌, ℕ, Bool, List, [], ◌∷◌, ◌++◌, Option, None, Some}
use Rattle.std.specs.Prelude.{if◌then◌else◌, slice_get, map}
use Rattle.std.specs.Option.{option_or}
use Rattle.std.proofs.lemmas.Bool.{eq-eqb}
use Rattle.fc_base.specs.Counted.{has}
use Rattle.job_file.specs.declared.job.Job.{Job}
use Rattle.engine.specs.History as window
use Rattle.messages.specs.declared.refusal.Act.{Act}
use Rattle.messages.specs.declared.refusal.Act.TheVariants as acts
use Rattle.server_core.specs.declared.job_run.End.TheVariants as ends
use Rattle.server_core.specs.Request.{ToTrigger, ToStop}
use Rattle.server_core.specs.Run.{Work, Halt, Triggered, Stopped, halt_of, halt_by, origin_of, history}
use Rattle.server_core.specs.Taken.{job_state, saved_state}
use Rattle.server_core.specs.Answers.{marks_by, marks}
use Rattle.server_core.specs.Kept.{Kept, end_kept, RunIs, stopped_kept, taken_kept}
use Rattle.server_core.proofs.RowLemmas.{and_then, row, row_by, each_row, same_job_run}

pub writes : (b : Option Halt) → end_kept b ≡ None → b ≡ None
writes None e = refl
writes (Some (Triggered act before)) e = cc
writes (Some Stopped) e = cc

writes_in : (kept : Kept) (w : Work) → RunIs kept w → kept.end ≡ None → halt_of w.run w.since ≡ None
writes_in kept w h e = writes (halt_of w.run w.since) (sym (ap (λ (k : Kept). k.end) h.is) ∙ e)

no_marks : (b : Option Halt) (run : ℕ) (act : Act) → (marks_by b run (ToTrigger run act) ≡ []) × (marks_by b run (ToStop run) ≡ [])
no_marks (Some (Triggered a before)) run act = (refl, refl)
no_marks (Some Stopped) run act = (refl, refl)
no_marks None run act = (refl, refl)

taken_row : (w : Work) (j : ℕ) (job : Job) (act : Act) (b : Option Halt) (h : List window.Event) (m : Bool) → slice_get w.jobs j ≡ Some job
    → h ≡ history (origin_of w j job) w.since → b ≡ None
    → row w j job (Some (Triggered act w.since)) h m ≡ taken_kept (row w j job b h m)
unfolding job_state
taken_row w j job act b h m is e none = rw (none, e) (same_job_run _ _ _ _ _ _ _ _ refl refl (ap (λ x. saved_state w j x w.since) is) refl)

stopped_row : (w : Work) (j : ℕ) (job : Job) (b : Option Halt) (h : List window.Event) (m : Bool) → b ≡ None
    → row w j job (Some Stopped) h m ≡ stopped_kept (row w j job b h m)
stopped_row w j job b h m none = rw none refl

pub take_step : (kept : Kept) (w : Work) (act : Act) → RunIs kept w → kept.end ≡ None
    → RunIs (record kept { end = Some (ends.Taken act); kept = map taken_kept kept.kept }) (and_then w (ToTrigger w.run act))
take_step kept w act h e =
    let none = writes_in kept w h e in
    let now : halt_of w.run (ToTrigger w.run act ∷ w.since) ≡ Some (Triggered act w.since) =
    ap (λ b. option_or b (halt_by w.run (ToTrigger w.run act) w.since)) none
    ∙ ap (λ t. if t then Some (Triggered act w.since) else None) (eq-eqb w.run w.run refl) in
    each_row kept w (ToTrigger w.run act) taken_kept (Some (Triggered act w.since)) h now
    (λ j job is. row_by w (ToTrigger w.run act) j job (Some (Triggered act w.since)) (history (origin_of w j job) w.since)
    (has (marks w.run w.since) j) now refl
    (ap (λ ms. has (ms ++ marks w.run w.since) j) (no_marks (halt_of w.run w.since) w.run act).0)
    ∙ taken_row w j job act (halt_of w.run w.since) (history (origin_of w j job) w.since) (has (marks w.run w.since) j) is refl none)

pub stop_step : (kept : Kept) (w : Work) → RunIs kept w → kept.end ≡ None
    → RunIs (record kept { end = Some ends.Stopped; kept = map stopped_kept kept.kept }) (and_then w (ToStop w.run))
stop_step kept w h e =
    let none = writes_in kept w h e in
    let now : halt_of w.run (ToStop w.run ∷ w.since) ≡ Some Stopped =
    ap (λ b. option_or b (halt_by w.run (ToStop w.run) w.since)) none ∙ ap (λ t. if t then Some Stopped else None) (eq-eqb w.run w.run refl) in
    each_row kept w (ToStop w.run) stopped_kept (Some Stopped) h now
    (λ j job is. row_by w (ToStop w.run) j job (Some Stopped) (history (origin_of w j job) w.since) (has (marks w.run w.since) j) now refl
    (ap (λ ms. has (ms ++ marks w.run w.since) j) (no_marks (halt_of w.run w.since) w.run acts.None).1)
    ∙ stopped_row w j job (halt_of w.run w.since) (history (origin_of w j job) w.since) (has (marks w.run w.since) j) none)
