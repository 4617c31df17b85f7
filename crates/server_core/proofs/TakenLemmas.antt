-- A state that is held has the key of the last run, and is the one that was taken.
use Rattle.std.proofs.Common.{◌≡◌, refl, ◌∙◌, ap, subst, ℕ, arith, Bool, true, false, ◌==◌, List, [], ◌∷◌, Option, None, Some}
use Rattle.std.specs.Prelude.{if◌then◌else◌, slice_get}
use Rattle.std.proofs.lemmas.Bool.Decides.{nat_tests}
use Rattle.job_file.specs.declared.job.Job.{Job}
use Rattle.verify_state.specs.State.{State as SavedState}
use Rattle.engine.specs.Running.{Origin}
use Rattle.server_core.specs.History.{Opening, Entry}
use Rattle.server_core.specs.Request.{Request}
use Rattle.server_core.specs.Run.{Work, Halt, Triggered, Stopped, halt_of, origin_of}
use Rattle.server_core.specs.Words.{last_run, work}
use Rattle.server_core.specs.Taken.{job_state, saved_state, taken_by_halt, taken_in, state_taken, and_those, takings}
use Rattle.server_core.specs.Laws.{IsTheTaken}
use Rattle.server_core.proofs.Takings.{Known, known}
use Rattle.server_core.proofs.WorkLemmas.{is_of}

some_same : (x y : SavedState) → Some x ≡ Some y → x ≡ y
some_same x y h = cc

job_key : (origin : Origin) (before : List Request) → (job_state origin before).key ≡ origin.key
unfolding job_state
job_key origin before = refl

saved_key : (w : Work) (j : ℕ) (job : Job) (b : Bool) (before : List Request) (s : SavedState)
    → (if b then Some (job_state (origin_of w j job) before) else None) ≡ Some s → s.key ≡ record { run = w.run; server = w.server; job = j }
saved_key w j job true before s h = subst (λ (v : SavedState). v.key ≡ record { run = w.run; server = w.server; job = j })
    (some_same (job_state (origin_of w j job) before) s h) (job_key (origin_of w j job) before)
saved_key w j job false before s h = cc

found_key : (w : Work) (j : ℕ) (job : Option Job) (before : List Request) (s : SavedState) → saved_state w j job before ≡ Some s
    → s.key ≡ record { run = w.run; server = w.server; job = j }
found_key w j None before s h = cc
found_key w j (Some job) before s h = saved_key w j job job.save before s h

halt_key : (w : Work) (j : ℕ) (halt : Option Halt) (s : SavedState) → taken_by_halt w j halt ≡ Some s
    → s.key ≡ record { run = w.run; server = w.server; job = j }
halt_key w j None s h = cc
halt_key w j (Some (Triggered act before)) s h = found_key w j (slice_get w.jobs j) before s h
halt_key w j (Some Stopped) s h = cc

-- Where the present run is this one, all that was ever taken of it is what its halt has taken.
pub stands_by : (run j last : ℕ) (states : List SavedState) (w : Work) → Known run j last states (Some w) → w.run ≡ run
    → states ≡ and_those (taken_by_halt w j (halt_of w.run w.since)) []
stands_by run j last states w k e =
    let same : (w.run == run) ≡ true = grind (arith, nat_tests) in
    let k' = k.stands in
    rw same at k'

stands_true : (run j last : ℕ) (states : List SavedState) (w : Work) (s : SavedState) → Known run j last states (Some w) → w.run ≡ run
    → taken_by_halt w j (halt_of w.run w.since) ≡ Some s → states ≡ s ∷ []
stands_true run j last states w s k e h = stands_by run j last states w k e ∙ ap (λ now. and_those now []) h

taken_is : (o : Opening) (past : List Entry) (j : ℕ) (s : SavedState) (x : Option Work) → work o past ≡ x → taken_in x j ≡ Some s → IsTheTaken o past j s
taken_is o past j s None is h = cc
taken_is o past j s (Some w) is h =
    let of = is_of o past w is in
    let key = halt_key w j (halt_of w.run w.since) s h in
    record {
      key = subst (λ n. s.key ≡ record { run = n; server = o.me; job = j }) of.run
          (subst (λ m. s.key ≡ record { run = w.run; server = m; job = j }) of.server key);
      one = stands_true (last_run o past) j (last_run o past) (takings o (last_run o past) j past) w s
          (subst (λ v. Known (last_run o past) j (last_run o past) (takings o (last_run o past) j past) v) is (known o (last_run o past) j past)) of.run h;
    }

pub holds_the_taken : (o : Opening) (past : List Entry) (j : ℕ) (s : SavedState) → state_taken o past j ≡ Some s → IsTheTaken o past j s
holds_the_taken o past j s h = taken_is o past j s (work o past) refl h
