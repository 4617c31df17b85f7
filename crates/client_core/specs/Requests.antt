-- How a trigger, a stop and a verify stand at a server.
use Rattle.std.specs.Prelude.{ℕ, Bool, true, false, ◌&&◌, ◌==◌, nat_lt, if◌then◌else◌, List, [], ◌∷◌}
use Rattle.std.specs.List.{list_all, list_any}
use Rattle.fc_base.specs.Counted.{numbers_below}
use Rattle.messages.specs.declared.body.Body.{Body}
use Rattle.messages.specs.declared.body.Body.TheVariants as bodies
use Rattle.messages.specs.declared.refusal.RefusedRequest.{RefusedRequest}
use Rattle.messages.specs.declared.refusal.RefusedRequest.TheVariants as asks
use Rattle.messages.specs.declared.refusal.Reason.{Reason}
use Rattle.messages.specs.declared.refusal.Reason.TheVariants as reasons
use Rattle.client_core.specs.Life.{Deed, Triggers, Stops, Verifies, Hears, run_of}

-- An answer for one job: the job, how many jobs there are, and whether a state didn't fit it.
pub record Telling : Type 0 where
  pub job : ℕ
  pub jobs : ℕ
  pub misfit : Bool

-- How a request stands at a server.
pub data Request : Type 0 where
  Unasked : Request  -- there was none
  Open : List Telling → Request  -- with what was told since it was asked, the newest first
  Served : Request  -- it ended well
  Denied : Reason → Request  -- it was refused

-- A request is open: it isn't answered yet.
abbrev pub is_open : Request → Bool
is_open (Open told) = true
is_open _ = false

-- How many jobs there are: what the first answer told.
abbrev pub jobs_told : List Telling → ℕ
jobs_told [] = 0
jobs_told (t ∷ []) = t.jobs
jobs_told (t ∷ u ∷ told) = jobs_told (u ∷ told)

-- One of the answers is for this job.
abbrev pub tells_of : List Telling → ℕ → Bool
tells_of told job = list_any (λ t. t.job == job) told

-- Each job has an answer.
abbrev pub tells_all : List Telling → Bool
tells_all told = list_all (tells_of told) (numbers_below (jobs_told told))

-- Only an answer for a job below the number of jobs counts.
abbrev pub counts : List Telling → Telling → Bool
counts told t = nat_lt t.job (jobs_told told)

-- One that counts tells of a misfit.
abbrev pub has_misfit : List Telling → Bool
has_misfit told = list_any (λ t. t.misfit && counts told t) told

-- A request ends once each job has an answer: well, but where a state didn't fit.
abbrev pub when_told : List Telling → Request
when_told told =
    if tells_all told then (if has_misfit told then Denied reasons.Misfit else Served)
    else Open told

-- An open request gets one more answer.
abbrev pub when_one_tells : Telling → Request → Request
when_one_tells t (Open ts) = when_told (t ∷ ts)
when_one_tells t q = q

-- An open request is answered.
abbrev pub when_answered : Request → Request
when_answered (Open ts) = Served
when_answered q = q

-- A server that is busy is asked again, and a misfit is an answer for one job; any other reason
-- ends an open request.
abbrev pub when_refused : Reason → Request → Request
when_refused reasons.Busy q = q
when_refused reasons.Misfit q = q
when_refused reason (Open ts) = Denied reason
when_refused reason q = q

-- How a trigger stands behind a refusal: one of another request leaves it as it was.
abbrev pub trigger_refused : RefusedRequest → Reason → Request → Request
trigger_refused asks.Trigger reason q = when_refused reason q
trigger_refused _ reason q = q

-- How a stop stands behind a refusal: one of another request leaves it as it was.
abbrev pub stop_refused : RefusedRequest → Reason → Request → Request
stop_refused asks.Stop reason q = when_refused reason q
stop_refused _ reason q = q

-- A refused verify, whose misfits are answers.
abbrev pub check_refused : Telling → Reason → Request → Request
check_refused t reasons.Misfit q = when_one_tells t q
check_refused t reason q = when_refused reason q

-- A refusal of what a request to verify asks for; it doesn't touch the others.
abbrev pub verify_refused : RefusedRequest → Telling → Reason → Request → Request
verify_refused asks.Verify t reason q = check_refused t reason q
verify_refused _ t reason q = q

-- What a server says of a triggered run.
abbrev pub trigger_heard : ℕ → Body → Request → Request
trigger_heard run (bodies.State jobs state) q =
    if state.key.run == run then when_one_tells
    (record { job = state.key.job; jobs = jobs; misfit = false }) q else q
trigger_heard run (bodies.NoState r job jobs) q =
    if r == run then when_one_tells (record { job = job; jobs = jobs; misfit = false }) q else q
trigger_heard run (bodies.Refused r) q =
    if r.run == run then trigger_refused r.asked r.reason q else q
trigger_heard run _ q = q

-- What a server says of a stopped run.
abbrev pub stop_heard : ℕ → Body → Request → Request
stop_heard run (bodies.Stopped r) q = if r == run then when_answered q else q
stop_heard run (bodies.Refused r) q = if r.run == run then stop_refused r.asked r.reason q else q
stop_heard run _ q = q

-- What a server says of an attempt to verify a run.
abbrev pub verify_heard : ℕ → ℕ → Body → Request → Request
verify_heard run attempt (bodies.Report r a job jobs report) q =
    if (r == run) && (a == attempt)
    then when_one_tells (record { job = job; jobs = jobs; misfit = false }) q else q
verify_heard run attempt (bodies.Refused r) q =
    if (r.run == run) && (r.attempt == attempt)
    then verify_refused r.asked (record { job = r.job; jobs = r.jobs; misfit = true }) r.reason q
    else q
verify_heard run attempt _ q = q

-- What a deed makes of a trigger: a new call asks anew.
abbrev pub trigger_after : ℕ → ℕ → Deed → Request → Request
trigger_after run server (Triggers r act) q = if r == run then Open [] else q
trigger_after run server (Hears s body) q = if s == server then trigger_heard run body q else q
trigger_after run server _ q = q

-- What a deed makes of a stop.
abbrev pub stop_after : ℕ → ℕ → Deed → Request → Request
stop_after run server (Stops r) q = if r == run then Open [] else q
stop_after run server (Hears s body) q = if s == server then stop_heard run body q else q
stop_after run server _ q = q

-- What a deed makes of an attempt that verifies this run.
abbrev pub verify_after : ℕ → ℕ → ℕ → Deed → Request → Request
verify_after run attempt server (Verifies r a text) q = if a == attempt then Open [] else q
verify_after run attempt server (Hears s body) q =
    if s == server then verify_heard run attempt body q else q
verify_after run attempt server _ q = q

-- How the trigger of a run stands at a server, after all that was done.
abbrev pub trigger_at : ℕ → ℕ → List Deed → Request
trigger_at run server [] = Unasked
trigger_at run server (deed ∷ deeds) = trigger_after run server deed (trigger_at run server deeds)

-- How the stop of a run stands at a server.
abbrev pub stop_at : ℕ → ℕ → List Deed → Request
stop_at run server [] = Unasked
stop_at run server (deed ∷ deeds) = stop_after run server deed (stop_at run server deeds)

-- How an attempt to verify stands at a server.
abbrev pub verify_at : ℕ → ℕ → List Deed → Request
verify_at attempt server [] = Unasked
verify_at attempt server (deed ∷ deeds) =
    verify_after (run_of attempt deeds) attempt server deed (verify_at attempt server deeds)
