-- An open begin was asked for with its text, and an open verify with its run and text.
use Rattle.std.proofs.Common.{◌≡◌, refl, subst, ℕ, Bool, true, false, ◌&&◌, ◌==◌, List, [], ◌∷◌}
use Rattle.std.specs.Prelude.{if◌then◌else◌, Contains}
use Rattle.std.proofs.lemmas.Bool.{eqb-true}
use Rattle.messages.specs.declared.body.Body.{Body}
use Rattle.messages.specs.declared.body.Body.TheVariants as bodies
use Rattle.messages.specs.declared.refusal.RefusedRequest.{RefusedRequest}
use Rattle.messages.specs.declared.refusal.RefusedRequest.TheVariants as asks
use Rattle.messages.specs.declared.refusal.Reason.{Reason}
use Rattle.messages.specs.declared.refusal.Reason.TheVariants as reasons
use Rattle.client_core.specs.Life.{Deed, Begins, Triggers, Stops, Verifies, Hears, text_of, run_of, check_of}
use Rattle.client_core.specs.declared.beginning.Beginning.{Beginning}
use Rattle.client_core.specs.Begins.{when_staged, when_started, jobs_refused, start_refused, begin_refused, begin_heard, begin_at}
use Rattle.client_core.specs.declared.beginning.Beginning.TheVariants as begins
use Rattle.client_core.specs.Requests.{Telling, Request, when_one_tells, when_refused, check_refused, verify_refused, verify_heard, verify_at}
use Rattle.client_core.specs.Requests as requests
use Rattle.fc_base.proofs.ListLemmas.{behind_one, first_of}
use Rattle.client_core.proofs.ReasonLemmas.{IsAsked, IsBegun}

staged_back : (b : Beginning) → IsBegun (when_staged b) → IsBegun b
staged_back begins.Staging h = tt
staged_back begins.Starting h = tt
staged_back _ h = h

started_back : (b : Beginning) → IsBegun (when_started b) → IsBegun b
started_back begins.Staging h = tt
started_back begins.Starting h = tt
started_back _ h = h

jobs_back : (reason : Reason) (b : Beginning) → IsBegun (jobs_refused reason b) → IsBegun b
jobs_back reason begins.Staging h = tt
jobs_back reason begins.Starting h = tt
jobs_back reasons.Busy _ h = h
jobs_back reasons.Misfit _ h = h
jobs_back _ _ h = h

start_back : (reason : Reason) (b : Beginning) → IsBegun (start_refused reason b) → IsBegun b
start_back reason begins.Staging h = tt
start_back reason begins.Starting h = tt
start_back reasons.Busy _ h = h
start_back reasons.Misfit _ h = h
start_back reasons.NoJobs _ h = h
start_back _ _ h = h

refused_back : (asked : RefusedRequest) (reason : Reason) (b : Beginning) → IsBegun (begin_refused asked reason b) → IsBegun b
refused_back asks.Jobs reason b h = jobs_back reason b h
refused_back asks.Start reason b h = start_back reason b h
refused_back _ reason b h = h

either : (here : Bool) (x y : Beginning) → (IsBegun x → IsBegun y) → IsBegun (if here then x else y) → IsBegun y
either true x y f h = f h
either false x y f h = h

heard_back : (run : ℕ) (body : Body) (b : Beginning) → IsBegun (begin_heard run body b) → IsBegun b
heard_back run (bodies.JobsOk r jobs) b h = either (r == run) (when_staged b) b (staged_back b) h
heard_back run (bodies.Started r) b h = either (r == run) (when_started b) b (started_back b) h
heard_back run (bodies.Refused r) b h = either (r.run == run) (begin_refused r.asked r.reason b) b (refused_back r.asked r.reason b) h
heard_back run _ b h = h

-- the deed of an open begin
abbrev HasBegun : List Deed → ℕ → List ℕ → Type 0
HasBegun deeds run text = Contains deeds (Begins run text)

begun_here : (here : Bool) (r run : ℕ) (text : List ℕ) (deeds : List Deed) (b : Beginning) → (here ≡ true → r ≡ run)
    → (IsBegun b → HasBegun deeds run (text_of run deeds)) → IsBegun (if here then begins.Staging else b)
    → HasBegun (Begins r text ∷ deeds) run (if here then text else text_of run deeds)
begun_here true r run text deeds b e f h = subst (λ x. HasBegun (Begins r text ∷ deeds) x text) (e refl) (first_of (Begins r text) deeds)
begun_here false r run text deeds b e f h = behind_one (Begins r text) deeds (Begins run (text_of run deeds)) (f h)

pub begun_was : (run s : ℕ) (deeds : List Deed) → IsBegun (begin_at run s deeds) → Contains deeds (Begins run (text_of run deeds))
begun_was run s [] h = absurd h
begun_was run s (Begins r text ∷ deeds) h = begun_here (r == run) r run text deeds (begin_at run s deeds) (λ e. eqb-true r run e) (begun_was run s deeds) h
begun_was run s (Hears t body ∷ deeds) h =
    behind_one (Hears t body) deeds (Begins run (text_of run deeds))
    (begun_was run s deeds (either (t == s) (begin_heard run body (begin_at run s deeds)) (begin_at run s deeds)
    (heard_back run body (begin_at run s deeds)) h))
begun_was run s (Triggers r act ∷ deeds) h = behind_one (Triggers r act) deeds (Begins run (text_of run deeds)) (begun_was run s deeds h)
begun_was run s (Stops r ∷ deeds) h = behind_one (Stops r) deeds (Begins run (text_of run deeds)) (begun_was run s deeds h)
begun_was run s (Verifies r a text ∷ deeds) h = behind_one (Verifies r a text) deeds (Begins run (text_of run deeds)) (begun_was run s deeds h)

-- a request that is open was open before what was heard
told_back : (t : Telling) (q : Request) → IsAsked (when_one_tells t q) → IsAsked q
told_back t (requests.Open ts) h = tt
told_back t requests.Unasked h = h
told_back t requests.Served h = h
told_back t (requests.Denied reason) h = h

denied_back : (reason : Reason) (q : Request) → IsAsked (when_refused reason q) → IsAsked q
denied_back reason (requests.Open ts) h = tt
denied_back reasons.Busy _ h = h
denied_back reasons.Misfit _ h = h
denied_back _ _ h = h

check_back : (t : Telling) (reason : Reason) (q : Request) → IsAsked (check_refused t reason q) → IsAsked q
check_back t reasons.Misfit q h = told_back t q h
check_back t reason q h = denied_back reason q h

verify_back : (asked : RefusedRequest) (t : Telling) (reason : Reason) (q : Request) → IsAsked (verify_refused asked t reason q) → IsAsked q
verify_back asks.Verify t reason q h = check_back t reason q h
verify_back _ t reason q h = h

or_else : (here : Bool) (x y : Request) → (IsAsked x → IsAsked y) → IsAsked (if here then x else y) → IsAsked y
or_else true x y f h = f h
or_else false x y f h = h

answer_back : (run attempt : ℕ) (body : Body) (q : Request) → IsAsked (verify_heard run attempt body q) → IsAsked q
answer_back run attempt (bodies.Report r a job jobs report) q h =
    let t : Telling = record { job = job; jobs = jobs; misfit = false } in
    or_else ((r == run) && (a == attempt)) (when_one_tells t q) q (told_back t q) h
answer_back run attempt (bodies.Refused r) q h =
    let t : Telling = record { job = r.job; jobs = r.jobs; misfit = true } in
    or_else ((r.run == run) && (r.attempt == attempt)) (verify_refused r.asked t r.reason q) q (verify_back r.asked t r.reason q) h
answer_back run attempt _ q h = h

-- the deed of an open verify
abbrev HasAsked : List Deed → ℕ → ℕ → List ℕ → Type 0
HasAsked deeds run attempt text = Contains deeds (Verifies run attempt text)

asked_here : (here : Bool) (r a attempt : ℕ) (text : List ℕ) (deeds : List Deed) (q : Request) → (here ≡ true → a ≡ attempt)
    → (IsAsked q → HasAsked deeds (run_of attempt deeds) attempt (check_of attempt deeds)) → IsAsked (if here then requests.Open [] else q)
    → HasAsked (Verifies r a text ∷ deeds) (if here then r else run_of attempt deeds) attempt (if here then text else check_of attempt deeds)
asked_here true r a attempt text deeds q e f h = subst (λ x. HasAsked (Verifies r a text ∷ deeds) r x text) (e refl) (first_of (Verifies r a text) deeds)
asked_here false r a attempt text deeds q e f h = behind_one (Verifies r a text) deeds (Verifies (run_of attempt deeds) attempt (check_of attempt deeds)) (f h)

pub asked_was : (attempt s : ℕ) (deeds : List Deed) → IsAsked (verify_at attempt s deeds)
    → Contains deeds (Verifies (run_of attempt deeds) attempt (check_of attempt deeds))
asked_was attempt s [] h = absurd h
asked_was attempt s (Verifies r a text ∷ deeds) h =
    asked_here (a == attempt) r a attempt text deeds (verify_at attempt s deeds) (λ e. eqb-true a attempt e) (asked_was attempt s deeds) h
asked_was attempt s (Hears t body ∷ deeds) h =
    behind_one (Hears t body) deeds (Verifies (run_of attempt deeds) attempt (check_of attempt deeds))
    (asked_was attempt s deeds (or_else (t == s) (verify_heard (run_of attempt deeds) attempt body (verify_at attempt s deeds)) (verify_at attempt s deeds)
    (answer_back (run_of attempt deeds) attempt body (verify_at attempt s deeds)) h))
asked_was attempt s (Begins r text ∷ deeds) h =
    behind_one (Begins r text) deeds (Verifies (run_of attempt deeds) attempt (check_of attempt deeds)) (asked_was attempt s deeds h)
asked_was attempt s (Triggers r act ∷ deeds) h =
    behind_one (Triggers r act) deeds (Verifies (run_of attempt deeds) attempt (check_of attempt deeds)) (asked_was attempt s deeds h)
asked_was attempt s (Stops r ∷ deeds) h =
    behind_one (Stops r) deeds (Verifies (run_of attempt deeds) attempt (check_of attempt deeds)) (asked_was attempt s deeds h)
