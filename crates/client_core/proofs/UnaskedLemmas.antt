-- What servers say of what wasn't asked leaves it so.
use Rattle.std.proofs.Common.{◌≡◌, refl, ap, ◌∙◌, ℕ, Bool, true, false, List, ◌∷◌}
use Rattle.std.specs.Prelude.{if◌then◌else◌}
use Rattle.messages.specs.declared.body.Body.{Body}
use Rattle.messages.specs.declared.body.Body.TheVariants as bodies
use Rattle.messages.specs.declared.refusal.RefusedRequest.{RefusedRequest}
use Rattle.messages.specs.declared.refusal.RefusedRequest.TheVariants as asks
use Rattle.messages.specs.declared.refusal.Reason.{Reason}
use Rattle.messages.specs.declared.refusal.Reason.TheVariants as reasons
use Rattle.client_core.specs.declared.beginning.Beginning.TheVariants.{Unbegun}
use Rattle.client_core.specs.Begins.{begin_heard, begin_refused, jobs_refused, start_refused}
use Rattle.client_core.specs.Life.{Deed, Hears, run_of}
use Rattle.client_core.specs.Lives.{Unnamed, Unmade}
use Rattle.client_core.specs.Requests.{Unasked, trigger_heard, stop_heard, verify_heard, trigger_refused}
use Rattle.client_core.specs.Requests.{stop_refused, verify_refused, when_refused, check_refused, Telling}

if_both : {A : Type 0} (b : Bool) (x y : A) → x ≡ y → (if b then x else y) ≡ y
if_both true x y e = e
if_both false x y e = refl

if_same : {A : Type 0} (b : Bool) (x y z : A) → x ≡ z → y ≡ z → (if b then x else y) ≡ z
if_same true x y z e f = e
if_same false x y z e f = f

not_refused : (reason : Reason) → when_refused reason Unasked ≡ Unasked
not_refused reasons.Old = refl
not_refused reasons.Busy = refl
not_refused reasons.NoJobs = refl
not_refused reasons.Gone = refl
not_refused reasons.Overwritten = refl
not_refused reasons.Unknown = refl
not_refused reasons.BadJobs = refl
not_refused reasons.Misfit = refl

not_checked : (t : Telling) (reason : Reason) → check_refused t reason Unasked ≡ Unasked
not_checked t reasons.Old = refl
not_checked t reasons.Busy = refl
not_checked t reasons.NoJobs = refl
not_checked t reasons.Gone = refl
not_checked t reasons.Overwritten = refl
not_checked t reasons.Unknown = refl
not_checked t reasons.BadJobs = refl
not_checked t reasons.Misfit = refl

jobs_not_refused : (reason : Reason) → jobs_refused reason Unbegun ≡ Unbegun
jobs_not_refused reasons.Old = refl
jobs_not_refused reasons.Busy = refl
jobs_not_refused reasons.NoJobs = refl
jobs_not_refused reasons.Gone = refl
jobs_not_refused reasons.Overwritten = refl
jobs_not_refused reasons.Unknown = refl
jobs_not_refused reasons.BadJobs = refl
jobs_not_refused reasons.Misfit = refl

start_not_refused : (reason : Reason) → start_refused reason Unbegun ≡ Unbegun
start_not_refused reasons.Old = refl
start_not_refused reasons.Busy = refl
start_not_refused reasons.NoJobs = refl
start_not_refused reasons.Gone = refl
start_not_refused reasons.Overwritten = refl
start_not_refused reasons.Unknown = refl
start_not_refused reasons.BadJobs = refl
start_not_refused reasons.Misfit = refl

begin_not_refused : (asked : RefusedRequest) (reason : Reason) → begin_refused asked reason Unbegun ≡ Unbegun
begin_not_refused asks.Jobs reason = jobs_not_refused reason
begin_not_refused asks.Start reason = start_not_refused reason
begin_not_refused asks.Trigger reason = refl
begin_not_refused asks.Stop reason = refl
begin_not_refused asks.Verify reason = refl

trigger_not_refused : (asked : RefusedRequest) (reason : Reason) → trigger_refused asked reason Unasked ≡ Unasked
trigger_not_refused asks.Jobs reason = refl
trigger_not_refused asks.Start reason = refl
trigger_not_refused asks.Trigger reason = not_refused reason
trigger_not_refused asks.Stop reason = refl
trigger_not_refused asks.Verify reason = refl

stop_not_refused : (asked : RefusedRequest) (reason : Reason) → stop_refused asked reason Unasked ≡ Unasked
stop_not_refused asks.Jobs reason = refl
stop_not_refused asks.Start reason = refl
stop_not_refused asks.Trigger reason = refl
stop_not_refused asks.Stop reason = not_refused reason
stop_not_refused asks.Verify reason = refl

verify_not_refused : (asked : RefusedRequest) (t : Telling) (reason : Reason) → verify_refused asked t reason Unasked ≡ Unasked
verify_not_refused asks.Jobs t reason = refl
verify_not_refused asks.Start t reason = refl
verify_not_refused asks.Trigger t reason = refl
verify_not_refused asks.Stop t reason = refl
verify_not_refused asks.Verify t reason = not_checked t reason

pub begin_unasked : (run : ℕ) (body : Body) → begin_heard run body Unbegun ≡ Unbegun
begin_unasked run (bodies.JobsOk r jobs) = if_both _ _ _ refl
begin_unasked run (bodies.Started r) = if_both _ _ _ refl
begin_unasked run (bodies.Refused r) = if_both _ _ _ (begin_not_refused r.asked r.reason)
begin_unasked run _ = refl

pub trigger_unasked : (run : ℕ) (body : Body) → trigger_heard run body Unasked ≡ Unasked
trigger_unasked run (bodies.State jobs state) = if_both _ _ _ refl
trigger_unasked run (bodies.NoState r job jobs) = if_both _ _ _ refl
trigger_unasked run (bodies.Refused r) = if_both _ _ _ (trigger_not_refused r.asked r.reason)
trigger_unasked run _ = refl

pub stop_unasked : (run : ℕ) (body : Body) → stop_heard run body Unasked ≡ Unasked
stop_unasked run (bodies.Stopped r) = if_both _ _ _ refl
stop_unasked run (bodies.Refused r) = if_both _ _ _ (stop_not_refused r.asked r.reason)
stop_unasked run _ = refl

pub verify_unasked : (run attempt : ℕ) (body : Body) → verify_heard run attempt body Unasked ≡ Unasked
verify_unasked run attempt (bodies.Report r a job jobs report) = if_both _ _ _ refl
verify_unasked run attempt (bodies.Refused r) = if_both _ _ _ (verify_not_refused r.asked (record { job = r.job; jobs = r.jobs; misfit = true }) r.reason)
verify_unasked run attempt _ = refl

pub unnamed_hears : (run server : ℕ) (body : Body) (deeds : List Deed) → Unnamed run deeds → Unnamed run (Hears server body ∷ deeds)
unnamed_hears run server body deeds h = record {
  text = h.text;
  act = h.act;
  begins = λ s. if_same _ _ _ _ (ap (begin_heard run body) (h.begins s) ∙ begin_unasked run body) (h.begins s);
  triggers = λ s. if_same _ _ _ _ (ap (trigger_heard run body) (h.triggers s) ∙ trigger_unasked run body) (h.triggers s);
  stops = λ s. if_same _ _ _ _ (ap (stop_heard run body) (h.stops s) ∙ stop_unasked run body) (h.stops s);
}

pub unmade_hears : (attempt server : ℕ) (body : Body) (deeds : List Deed) → Unmade attempt deeds → Unmade attempt (Hears server body ∷ deeds)
unmade_hears attempt server body deeds h = record {
  run = h.run;
  text = h.text;
  verifies = λ s. if_same _ _ _ _ (ap (verify_heard (run_of attempt deeds) attempt body) (h.verifies s) ∙ verify_unasked (run_of attempt deeds) attempt body)
      (h.verifies s);
}
