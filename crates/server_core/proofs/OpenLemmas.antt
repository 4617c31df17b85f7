-- The tickets of open writes, as they are kept and as they tell where a write comes from.
use Rattle.std.proofs.Common.{◌≡◌, refl, sym, ap, ◌∙◌, ℕ, ◌≤◌, Bool, true, false, length, Option, None, Some}
use Rattle.std.specs.Prelude.{slice_get, if◌then◌else◌}
use Rattle.std.specs.Option.{option_map}
use Rattle.fc_base.specs.Counted.{has}
use Rattle.job_file.specs.declared.job.Job.{Job}
use Rattle.engine.specs.History.{open_writes}
use Rattle.engine.specs.Running.{Origin}
use Rattle.engine.specs.Answers as engine
use Rattle.engine.specs.Answers.{ticket_of}
use Rattle.server_core.specs.declared.job_run.JobRun.{JobRun}
use Rattle.server_core.specs.Run.{Work, origin_of, history}
use Rattle.server_core.specs.Answers.{job_of_run}
use Rattle.server_core.specs.Kept.{Kept, RunIs}
use Rattle.server_core.specs.OpenWrites.{open_origin_of, open_origin, open_ticket, origin_told}
use Rattle.server_core.proofs.RowLemmas.{job_here}
use Rattle.server_core.proofs.RunLemmas.{no_job}

ticket_if : (is_open : Bool) (origin : Origin) (k : ℕ) → (if is_open then Some (ticket_of origin k) else None)
    ≡ option_map (λ (o : Origin). ticket_of o k) (if is_open then Some origin else None)
ticket_if true origin k = refl
ticket_if false origin k = refl

-- The engine that is kept of a job has the tickets of its open writes.
pub open_here : (kept : Kept) (w : Work) (i k : ℕ) (old : JobRun) → RunIs kept w → slice_get kept.kept i ≡ Some old
    → engine.open_ticket old.engine.origin old.engine.kept.open_writes k ≡ open_ticket (Some w) i k
open_here kept w i k old is at =
    let p = job_here kept w i old is at in
    let origin = origin_of w i p.0 in
    ap (λ (j : JobRun). engine.open_ticket j.engine.origin j.engine.kept.open_writes k) p.2
    ∙ ticket_if (has (open_writes (history origin w.since)) k) origin k
    ∙ sym (ap (λ (job : Option Job). option_map (λ (o : Origin). ticket_of o k) (open_origin_of w i k job)) p.1)

-- Where there is no such job, none is open.
pub open_nowhere : (kept : Kept) (w : Work) (i k : ℕ) → RunIs kept w → length kept.kept ≤ i → None ≡ open_ticket (Some w) i k
open_nowhere kept w i k is past =
    sym (ap (λ (job : Option Job). option_map (λ (o : Origin). ticket_of o k) (open_origin_of w i k job)) (no_job kept w i is past))

told_if : (is_open : Bool) (w : Work) (j k : ℕ) (job : Job) →
    (if is_open then Some (origin_of w j job) else None)
    ≡ origin_told (option_map (λ (o : Origin). ticket_of o k) (if is_open then Some (origin_of w j job) else None)) (Some job)
told_if true w j k job = refl
told_if false w j k job = refl

told_of : (w : Work) (j k : ℕ) (job : Option Job) → open_origin_of w j k job
    ≡ origin_told (option_map (λ (o : Origin). ticket_of o k) (open_origin_of w j k job)) job
told_of w j k None = refl
told_of w j k (Some job) = told_if (has (open_writes (history (origin_of w j job) w.since)) k) w j k job

pub tickets_tell : (now : Option Work) (j k : ℕ) → open_origin now j k ≡ origin_told (open_ticket now j k) (job_of_run now j)
tickets_tell None j k = refl
tickets_tell (Some w) j k = told_of w j k (slice_get w.jobs j)
