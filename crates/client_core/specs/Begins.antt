-- How the begin of a run stands at a server: the jobs are sent first, and then the start.
use Rattle.std.specs.Prelude.{ℕ, ◌==◌, if◌then◌else◌, List, [], ◌∷◌}
use Rattle.messages.specs.declared.body.Body.{Body}
use Rattle.messages.specs.declared.body.Body.TheVariants as bodies
use Rattle.messages.specs.declared.refusal.RefusedRequest.{RefusedRequest}
use Rattle.messages.specs.declared.refusal.RefusedRequest.TheVariants as asks
use Rattle.messages.specs.declared.refusal.Reason.{Reason}
use Rattle.messages.specs.declared.refusal.Reason.TheVariants as reasons
use Rattle.client_core.specs.declared.beginning.Beginning.{Beginning}
use Rattle.client_core.specs.declared.beginning.Beginning.TheVariants.{Unbegun, Staging, Starting, Started, Denied}
use Rattle.client_core.specs.Life.{Deed, Begins, Hears}

-- JobsOk answers Jobs, and Start is opened.
abbrev pub when_staged : Beginning → Beginning
when_staged Staging = Starting
when_staged b = b

-- Started answers an open Start.
abbrev pub when_started : Beginning → Beginning
when_started Starting = Started
when_started b = b

-- A server that is busy is asked again, and a misfit is none of Jobs; any other reason ends an open
-- Jobs.
abbrev pub jobs_refused : Reason → Beginning → Beginning
jobs_refused reasons.Busy b = b
jobs_refused reasons.Misfit b = b
jobs_refused reason Staging = Denied reason
jobs_refused reason b = b

-- A server that is busy is asked again, one that has no jobs of the run is sent them again, and a
-- misfit is none of Start; any other reason ends an open Start.
abbrev pub start_refused : Reason → Beginning → Beginning
start_refused reasons.Busy b = b
start_refused reasons.Misfit b = b
start_refused reasons.NoJobs Starting = Staging
start_refused reason Starting = Denied reason
start_refused reason b = b

-- Only a refusal of Jobs or of Start counts.
abbrev pub begin_refused : RefusedRequest → Reason → Beginning → Beginning
begin_refused asks.Jobs reason b = jobs_refused reason b
begin_refused asks.Start reason b = start_refused reason b
begin_refused _ reason b = b

-- What a server says of the run.
abbrev pub begin_heard : ℕ → Body → Beginning → Beginning
begin_heard run (bodies.JobsOk r jobs) b = if r == run then when_staged b else b
begin_heard run (bodies.Started r) b = if r == run then when_started b else b
begin_heard run (bodies.Refused r) b = if r.run == run then begin_refused r.asked r.reason b else b
begin_heard run _ b = b

-- What a deed makes of it.
abbrev pub begin_after : ℕ → ℕ → Deed → Beginning → Beginning
begin_after run server (Begins r text) b = if r == run then Staging else b
begin_after run server (Hears s body) b = if s == server then begin_heard run body b else b
begin_after run server _ b = b

-- How the begin of a run stands at a server, after all that was done.
abbrev pub begin_at : ℕ → ℕ → List Deed → Beginning
begin_at run server [] = Unbegun
begin_at run server (deed ∷ deeds) = begin_after run server deed (begin_at run server deeds)
