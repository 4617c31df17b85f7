-- What is known of bodies and numbers that are in their ranges.
use Rattle.std.proofs.Common.{◌≡◌, refl, sym, subst, ℕ, ◌^◌, ◌<◌, arith, Bool, true, false, List, length, Option, None, Some}
use Rattle.std.specs.Prelude.{if◌then◌else◌, nat_le}
use Rattle.std.specs.List.{AllByRecursion}
use Rattle.std.proofs.lemmas.Bool.{and_from, le-leb, lt-ltb}
use Rattle.fc_base.specs.declared.limits.TheConstants.{MAX_JOBS, MAX_SERVERS}
use Rattle.job_file.specs.declared.job.Job.{Job}
use Rattle.messages.specs.declared.body.Body.{Body}
use Rattle.messages.specs.declared.refusal.RefusedRequest.{RefusedRequest}
use Rattle.messages.specs.declared.refusal.Reason.{Reason}
use Rattle.messages.specs.declared.refusal.Reason.TheVariants as reasons
use Rattle.messages.specs.Ranges.{is_word, is_run, is_jobs, is_job_of, is_body, is_job_refused, is_attempt_refused, KeepsState}
use Rattle.server_core.specs.Run.{Work}
use Rattle.server_core.specs.Check.{Check}
use Rattle.server_core.specs.Replies.{refuse, gone_or_unknown}
use Rattle.engine.specs.Counting.{ComesToPossible}
use Rattle.server_core.specs.Laws.{IsSet, TextsGiveSets, HistoriesAreLegal}
use Rattle.server_core.proofs.WorkLemmas as works
use Rattle.server_core.proofs.StateLemmas.{run_below}
use Rattle.server_core.proofs.SetLemmas.{SomeWork, CheckFits}
use Rattle.server_core.proofs.SetLemmas as kept
use Rattle.server_core.proofs.RangeLemmas.{RequestFits, InRun, InAttempt}

-- The laws of the layers below, on which the ranges rest.
pub record Below : Type 0 where
  pub texts : TextsGiveSets
  pub legal : HistoriesAreLegal
  pub possible : ComesToPossible

-- A run whose numbers are in their ranges, and its jobs a set.
pub record RunFits (w : Work) : Type 0 where
  pub run : is_run w.run ≡ true
  pub server : w.server < MAX_SERVERS
  pub jobs : IsSet w.jobs

abbrev pub SomeRun : Option Work → Type 0
SomeRun None = Unit {0}
SomeRun (Some w) = RunFits w

pub run_of : (me b last : ℕ) (x : Option Work) → me < MAX_SERVERS → SomeWork InRun x → works.Of me b last x → SomeRun x
run_of me b last None l h k = tt
run_of me b last (Some w) l h k = record { run = h.run; server = subst (λ n. n < MAX_SERVERS) (sym k.server) l; jobs = h.jobs }

abbrev pub CheckInRange : Check → Type 0
CheckInRange c = CheckFits RequestFits InRun InAttempt c

abbrev pub SomeCheck : Option Check → Type 0
SomeCheck c = kept.SomeCheck RequestFits InRun InAttempt c

abbrev pub BodyFits : Body → Type 0
BodyFits b = (is_body b ≡ true) × KeepsState b

abbrev pub Fit : List Body → Type 0
Fit bs = AllByRecursion BodyFits bs

pub fit_if : (b : Bool) (xs ys : List Body) → Fit xs → Fit ys → Fit (if b then xs else ys)
fit_if true xs ys h k = h
fit_if false xs ys h k = k

-- ---- numbers

pub word : (n : ℕ) → n < 2 ^ 64 → is_word n ≡ true
word n h = lt-ltb n (2 ^ 64) h

pub run_word : (r : ℕ) → is_run r ≡ true → is_word r ≡ true
run_word r h = word r (run_below r h)

pub jobs_number : (js : List Job) → IsSet js → is_jobs (length js) ≡ true
jobs_number js s = and_from _ _ (le-leb 1 (length js) s.within.some) (le-leb (length js) MAX_JOBS s.within.few)

pub one_of : (js : List Job) (j : ℕ) → IsSet js → j < length js → is_job_of j (length js) ≡ true
one_of js j s l = and_from _ _ (jobs_number js s) (lt-ltb j (length js) l)

pub job_number : (js : List Job) (j : ℕ) → IsSet js → j < length js → j < MAX_JOBS
job_number js j s l = let m = s.within.few in omega arith

-- ---- refusals

pub refuse_fits : (asked : RefusedRequest) (reason : Reason) (r a value : ℕ) → is_run r ≡ true → is_word value ≡ true → is_job_refused reason 0 0 ≡ true
    → is_attempt_refused asked a ≡ true → Fit (refuse asked reason r a value)
refuse_fits asked reason r a value h v j k = ((and_from _ _ (and_from _ _ (and_from _ _ h v) j) k, tt), tt)

pub gone_fits : (asked : RefusedRequest) (r last : ℕ) → is_run r ≡ true → last < 2 ^ 64 → is_attempt_refused asked 0 ≡ true → Fit (gone_or_unknown asked r last)
gone_fits asked r last h l a =
    fit_if (nat_le r last) _ _ (refuse_fits asked reasons.Gone r 0 last h (word last l) refl a)
    (refuse_fits asked reasons.Unknown r 0 last h (word last l) refl a)
