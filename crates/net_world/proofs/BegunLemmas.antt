-- A run is begun once, with one set of jobs, and what is taken is of these.
use Rattle.std.proofs.Common.{◌≡◌, refl, sym, ◌∙◌, ap, subst, inl, inr, ℕ, ◌<◌, ◌≤◌, arith, Bool}
use Rattle.std.proofs.Common.{true, false, ◌&&◌, ◌==◌, List, [], ◌∷◌, length, Option, None, Some}
use Rattle.std.specs.Prelude.{if◌then◌else◌, slice_get, Contains}
use Rattle.std.proofs.lemmas.Bool.{eqb-true, and_parts, eq-eqb}
use Rattle.std.proofs.lemmas.Bool.Decides.{nat_tests}
use Rattle.std.proofs.lemmas.Option.{slice_get_within}
use Rattle.job_file.specs.declared.job.Job.{Job}
use Rattle.verify_state.specs.State.{State}
use Rattle.disk_model.specs.declared.save_outcome.SaveOutcome.{SaveOutcome}
use Rattle.disk_model.specs.declared.save_outcome.SaveOutcome.TheVariants.{NoSave, Saved, LostNew, LostOld}
use Rattle.fc_base.proofs.ListLemmas.{none_in, first_or_behind}
use Rattle.server_core.specs.Inputs.{PacketInput}
use Rattle.server_core.specs.History.{Opening, Entry, Met, Cut, Restart}
use Rattle.server_core.specs.Request.{Request, request_of}
use Rattle.server_core.specs.Run.{Work, Halt, halt_of, goes_on}
use Rattle.server_core.specs.Words.{Staged, boot, last_run, work, due, work_after}
use Rattle.server_core.specs.Taken.{saved_state, state_of_job, triggers, takes_now, takes, and_those, takings}
use Rattle.server_core.specs.Laws.{NumbersGrow}
use Rattle.net_world.proofs.StartLemmas.{due_above, recorded_now}

-- The jobs with which a run was begun, in whichever life: those of a Start whose save answered Ok.

abbrev pub begun_by : ℕ → Option Staged → Option (List Job) → Option (List Job)
begun_by run None older = older
begun_by run (Some s) older = if s.run == run then Some s.jobs else older

abbrev pub begun_after : SaveOutcome → ℕ → Option Staged → Option (List Job) → Option (List Job)
begun_after NoSave run due older = older
begun_after Saved run due older = begun_by run due older
begun_after LostNew run due older = older
begun_after LostOld run due older = older

abbrev pub begun : Opening → ℕ → List Entry → Option (List Job)
begun o run [] = None
begun o run (Met e left ∷ past) = begun_after left run (due o past e) (begun o run past)
begun o run (Cut ∷ past) = begun o run past
begun o run (Restart left ∷ past) = begun o run past

-- The present run was begun with its jobs.

IsBegun : Opening → List Entry → Option Work → Type 0
IsBegun o list None = Unit {0}
IsBegun o list (Some w) = begun o w.run list ≡ Some w.jobs

if_same : (n : ℕ) (js : List Job) (older : Option (List Job)) (t : Bool) → t ≡ true → (if t then Some js else older) ≡ Some js
if_same n js older true h = refl
if_same n js older false h = absurd cc

same_jobs : (o : Opening) (older list : List Entry) (x : Request) (w : Option Work) → ((r : ℕ) → begun o r older ≡ begun o r list) → IsBegun o older w
    → IsBegun o list (goes_on x w)
unfolding IsBegun
same_jobs o older list x None e h = tt
same_jobs o older list x (Some w) e h = sym (e w.run) ∙ h

begun_next : (o : Opening) (past : List Entry) (e : PacketInput) (left : SaveOutcome) (d : Option Staged) (w : Option Work) → due o past e ≡ d → IsBegun o past w
    → IsBegun o (Met e left ∷ past) (work_after left d o.me (boot o past) (request_of o.me e) w)
unfolding IsBegun
begun_next o past e NoSave d w is h = same_jobs o past (Met e NoSave ∷ past) (request_of o.me e) w (λ r. refl) h
begun_next o past e Saved None w is h = same_jobs o past (Met e Saved ∷ past) (request_of o.me e) w (λ r. sym (ap (λ x. begun_by r x (begun o r past)) is)) h
begun_next o past e Saved (Some s) w is h =
    ap (λ x. begun_by s.run x (begun o s.run past)) is ∙ if_same s.run s.jobs (begun o s.run past) (s.run == s.run) (eq-eqb s.run s.run refl)
begun_next o past e LostNew d w is h = tt
begun_next o past e LostOld d w is h = tt

begun_of : (o : Opening) (past : List Entry) → IsBegun o past (work o past)
unfolding IsBegun
begun_of o [] = tt
begun_of o (Met e left ∷ past) = begun_next o past e left (due o past e) (work o past) refl (begun_of o past)
begun_of o (Cut ∷ past) = tt
begun_of o (Restart left ∷ past) = tt

pub work_begun : (o : Opening) (past : List Entry) (w : Work) → work o past ≡ Some w → begun o w.run past ≡ Some w.jobs
unfolding IsBegun
work_begun o past w h = subst (IsBegun o past) h (begun_of o past)

-- A run that was begun is not above the last run.

not_above : NumbersGrow → (o : Opening) (past : List Entry) (e : PacketInput) (left : SaveOutcome) (d : Option Staged) (run : ℕ) (js : List Job) → due o past e ≡ d
    → (begun o run past ≡ Some js → run ≤ last_run o past)
    → begun_after left run d (begun o run past) ≡ Some js → run ≤ last_run o (Met e left ∷ past)
not_above grow o past e NoSave d run js is f h = let a = f h in let g = (grow o (Met e NoSave) past).0 in omega arith
not_above grow o past e LostNew d run js is f h = let a = f h in let g = (grow o (Met e LostNew) past).0 in omega arith
not_above grow o past e LostOld d run js is f h = let a = f h in let g = (grow o (Met e LostOld) past).0 in omega arith
not_above grow o past e Saved None run js is f h = let a = f h in let g = (grow o (Met e Saved) past).0 in omega arith
not_above grow o past e Saved (Some s) run js is f h =
    here (s.run == run) (eqb-true s.run run) h
  where
    here : (t : Bool) → (t ≡ true → s.run ≡ run) → (if t then Some s.jobs else begun o run past) ≡ Some js → run ≤ last_run o (Met e Saved ∷ past)
    here true same k = let a = same refl in let b = recorded_now o past e s is in omega arith
    here false same k = let a = f k in let g = (grow o (Met e Saved) past).0 in omega arith

pub begun_within : NumbersGrow → (o : Opening) (run : ℕ) (past : List Entry) (js : List Job) → begun o run past ≡ Some js → run ≤ last_run o past
begun_within grow o run [] js h = absurd cc
begun_within grow o run (Met e left ∷ past) js h = not_above grow o past e left (due o past e) run js refl (begun_within grow o run past js) h
begun_within grow o run (Cut ∷ past) js h = begun_within grow o run past js h
begun_within grow o run (Restart left ∷ past) js h = begun_within grow o run past js h

-- It is never begun again.

another : (t : Bool) (js other : List Job) (older : Option (List Job)) → t ≡ false → older ≡ Some js → (if t then Some other else older) ≡ Some js
another true js other older h k = absurd cc
another false js other older h k = k

different : (a b : ℕ) → b < a → (a == b) ≡ false
different a b h = grind (arith, nat_tests)

stays_after : NumbersGrow → (o : Opening) (past : List Entry) (e : PacketInput) (left : SaveOutcome) (d : Option Staged) (run : ℕ) (js : List Job) → due o past e ≡ d
    → begun o run past ≡ Some js → begun_after left run d (begun o run past) ≡ Some js
stays_after grow o past e NoSave d run js is h = h
stays_after grow o past e LostNew d run js is h = h
stays_after grow o past e LostOld d run js is h = h
stays_after grow o past e Saved None run js is h = h
stays_after grow o past e Saved (Some s) run js is h =
    let above = due_above o past e s is in
    let within = begun_within grow o run past js h in
    another (s.run == run) js s.jobs (begun o run past) (different s.run run (omega arith)) h

pub begun_stays : NumbersGrow → (o : Opening) (run : ℕ) (e : Entry) (past : List Entry) (js : List Job) → begun o run past ≡ Some js
    → begun o run (e ∷ past) ≡ Some js
begun_stays grow o run (Met e left) past js h = stays_after grow o past e left (due o past e) run js refl h
begun_stays grow o run Cut past js h = h
begun_stays grow o run (Restart left) past js h = h

-- What was taken is of a job with which the run was begun.

pub record IsOfSet (o : Opening) (run j : ℕ) (list : List Entry) : Type 0 where
  pub jobs : List Job
  pub is : begun o run list ≡ Some jobs
  pub within : j < length jobs

set_stays : NumbersGrow → (o : Opening) (run j : ℕ) (e : Entry) (past : List Entry) → IsOfSet o run j past → IsOfSet o run j (e ∷ past)
set_stays grow o run j e past h = record { jobs = h.jobs; is = begun_stays grow o run e past h.jobs h.is; within = h.within }

job_within : (w : Work) (j : ℕ) (x : Option Job) (before : List Request) (s : State) → slice_get w.jobs j ≡ x → saved_state w j x before ≡ Some s
    → j < length w.jobs
job_within w j None before s is h = absurd cc
job_within w j (Some job) before s is h = slice_get_within w.jobs j job is

hit : (t : Bool) (x : Option State) (s : State) → (if t then x else None) ≡ Some s → (t ≡ true) × (x ≡ Some s)
hit true x s h = (refl, h)
hit false x s h = absurd cc

takes_from : (run j : ℕ) (x : Request) (w : Work) (h : Option Halt) (s : State) → takes_now (triggers run x && (w.run == run)) w j h ≡ Some s
    → (w.run ≡ run) × (state_of_job w j w.since ≡ Some s)
takes_from run j x w (Some halt) s h = absurd cc
takes_from run j x w None s h =
    let p = hit (triggers run x && (w.run == run)) (state_of_job w j w.since) s h in
    (eqb-true w.run run (and_parts (triggers run x) (w.run == run) p.0).1, p.1)

takes_of : (o : Opening) (past : List Entry) (run j : ℕ) (x : Request) (v : Option Work) (s : State) → work o past ≡ v → takes run j x v ≡ Some s
    → IsOfSet o run j past
takes_of o past run j x None s is h = absurd cc
takes_of o past run j x (Some w) s is h =
    let p = takes_from run j x w (halt_of w.run w.since) s h in
    record {
      jobs = w.jobs;
      is = subst (λ r. begun o r past ≡ Some w.jobs) p.0 (work_begun o past w is);
      within = job_within w j (slice_get w.jobs j) w.since s refl p.1;
    }

taking_of : (o : Opening) (past : List Entry) (e : PacketInput) (run j : ℕ) (x : Option State) (s : State) → takes run j (request_of o.me e) (work o past) ≡ x
    → (Contains (takings o run j past) s → IsOfSet o run j past) → Contains (and_those x (takings o run j past)) s → IsOfSet o run j past
taking_of o past e run j None s is f h = f h
taking_of o past e run j (Some y) s is f h =
    elim (first_or_behind y (takings o run j past) s h) [ inl same ↦ takes_of o past run j (request_of o.me e) (work o past) y refl is | inr i ↦ f i ]

pub taken_of_set : NumbersGrow → (o : Opening) (run j : ℕ) (past : List Entry) (s : State) → Contains (takings o run j past) s → IsOfSet o run j past
taken_of_set grow o run j [] s h = absurd (none_in s h)
taken_of_set grow o run j (Met e left ∷ past) s h =
    set_stays grow o run j (Met e left) past (taking_of o past e run j (takes run j (request_of o.me e) (work o past)) s refl
    (taken_of_set grow o run j past s) h)
taken_of_set grow o run j (Cut ∷ past) s h = set_stays grow o run j Cut past (taken_of_set grow o run j past s h)
taken_of_set grow o run j (Restart left ∷ past) s h = set_stays grow o run j (Restart left) past (taken_of_set grow o run j past s h)
