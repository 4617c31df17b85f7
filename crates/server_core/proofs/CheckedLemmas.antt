-- What is kept of a check, behind one more request.
use Rattle.std.proofs.Common.{◌≡◌, ◌≢◌, refl, sym, ap, subst, ◌∙◌, ℕ, zero, suc, ◌≤◌, arith, Bool}
use Rattle.std.proofs.Common.{true, false, ◌&&◌, ◌==◌, List, [], ◌∷◌, length, Option, None, Some}
use Rattle.std.specs.Prelude.{if◌then◌else◌, set, slice_get}
use Rattle.std.specs.Option.{option_map}
use Rattle.std.proofs.lemmas.Option.{slice_get_past}
use Rattle.std.proofs.lemmas.Bool.{and_parts, eqb-true, ne_eqb, eq-eqb}
use Rattle.fc_base.specs.declared.fault.Fault.TheVariants.{NotInFlight}
use Rattle.fc_base.specs.declared.report.ReportParts.{ReportParts}
use Rattle.job_file.specs.declared.job.Job.{Job}
use Rattle.verify_state.specs.State.{State}
use Rattle.verify_state.specs.Misfit.{misfit}
use Rattle.server_core.specs.Request.{Request, ToHold, ToPassFully, ToReport}
use Rattle.server_core.specs.Check.{Check, Progress, Wanting, Full, With, Refused, Done, progress_with_state}
use Rattle.server_core.specs.Check.{progress_without_state, progress_with_report, progress_at, progress_in, check_goes_on}
use Rattle.server_core.specs.KeptCheck.{CheckKept, check_kept, job_progress, is_wanting, wants_in}
use Rattle.server_core.specs.KeptCheck.{ready_in, ready_now, with_progress, judgement, judgement_of_job}
use Rattle.server_core.specs.Stands.{OpenIs}
use Rattle.server_core.specs.Answers.{is_ready, is_open_attempt, refused_by}
use Rattle.server_core.specs.Kept.{map_numbered}
use Rattle.server_core.proofs.NumberedLemmas.{same_numbered, set_one, get_at, length-numbered}

-- A check behind one more request.
abbrev pub and_then : Check → Request → Check
and_then c x = record c { since = x ∷ c.since }

abbrev check_by : ℕ → ℕ → List Job → List Progress → CheckKept
check_by r a js ps = record { run = r; attempt = a; jobs = js; progress = ps }

same_check : (r s a b : ℕ) (js gs : List Job) (ps qs : List Progress) → r ≡ s → a ≡ b → js ≡ gs → ps ≡ qs → check_by r a js ps ≡ check_by s b gs qs
same_check r s a b js gs ps qs e f g h = cc

-- A request that changes nothing of any job.
pub idle : (kept : CheckKept) (c : Check) (x : Request) → kept ≡ check_kept c
    → ((j : ℕ) (job : Job) → slice_get c.jobs j ≡ Some job → job_progress (and_then c x) j job ≡ job_progress c j job) → kept ≡ check_kept (and_then c x)
idle kept c x is same = is ∙ same_check _ _ _ _ _ _ _ _ refl refl refl (same_numbered (job_progress c) (job_progress (and_then c x)) c.jobs same)

-- A request that changes one job.
pub one : (kept : CheckKept) (c : Check) (x : Request) (i : ℕ) (p : Progress) → kept ≡ check_kept c
    → ((j : ℕ) (job : Job) → j ≢ i → job_progress (and_then c x) j job ≡ job_progress c j job)
    → ((job : Job) → slice_get c.jobs i ≡ Some job → p ≡ job_progress (and_then c x) i job)
    → record kept { progress = set kept.progress i p } ≡ check_kept (and_then c x)
one kept c x i p is others here =
    same_check _ _ _ _ _ _ _ _ (ap (λ (k : CheckKept). k.run) is) (ap (λ (k : CheckKept). k.attempt) is) (ap (λ (k : CheckKept). k.jobs) is)
    (ap (λ (k : CheckKept). set k.progress i p) is ∙ set_one (job_progress c) (job_progress (and_then c x)) c.jobs i p others here)

-- ---- a job that waits for its state

pub if_in : {A : Type 0} (s t : Bool) (x y : A) → s ≡ true → t ≡ true → (if s && t then x else y) ≡ x
if_in s t x y e f = rw (e, f) refl

pub if_out : {A : Type 0} (s t : Bool) (x y : A) → t ≡ false → (if s && t then x else y) ≡ y
if_out true t x y e = rw e refl
if_out false t x y e = refl

pub not_same : (i j : ℕ) → j ≢ i → (i == j) ≡ false
not_same i j ne = ne_eqb i j (λ e. ne (sym e))

-- What is there where a job waits.
pub kept_at : (kept : CheckKept) (c : Check) (i : ℕ) (job : Job) → kept ≡ check_kept c → slice_get c.jobs i ≡ Some job
    → slice_get kept.progress i ≡ Some (job_progress c i job)
kept_at kept c i job is at = ap (λ (k : CheckKept). slice_get k.progress i) is ∙ get_at (job_progress c) c.jobs i job at

wanting : (p : Progress) → is_wanting (Some p) ≡ true → p ≡ Wanting
wanting Wanting e = refl
wanting Full e = cc
wanting (With s) e = cc
wanting (Refused v) e = cc
wanting (Done r) e = cc

pub waits : (kept : CheckKept) (c : Check) (i : ℕ) (job : Job) → kept ≡ check_kept c → is_wanting (slice_get kept.progress i) ≡ true
    → slice_get c.jobs i ≡ Some job → job_progress c i job ≡ Wanting
waits kept c i job is w at = wanting (job_progress c i job) (ap is_wanting (sym (kept_at kept c i job is at)) ∙ w)

-- What doesn't wait stays, whatever is made of it.
stays_if : (s t w : Bool) (p q : Progress) → (s && w) ≡ false → (t ≡ true → w ≡ is_wanting (Some p)) → (is_wanting (Some p) ≡ false → q ≡ p)
    → (if s && t then q else p) ≡ p
stays_if false t w p q e here same = refl
stays_if true false w p q e here same = refl
stays_if true true w p q e here same = same (sym (here refl) ∙ e)

-- Where no job waits in this attempt, a request for one changes nothing.
pub unchanged : (kept : CheckKept) (c : Check) (a j i : ℕ) (job : Job) (q : Progress) → kept ≡ check_kept c → wants_in kept a j ≡ false
    → slice_get c.jobs i ≡ Some job → (is_wanting (Some (job_progress c i job)) ≡ false → q ≡ job_progress c i job)
    → (if (a == c.attempt) && (j == i) then q else job_progress c i job) ≡ job_progress c i job
unchanged kept c a j i job q is wants at same =
    stays_if (a == c.attempt) (j == i) (is_wanting (slice_get kept.progress j)) (job_progress c i job) q
    (ap (λ (k : CheckKept). (a == k.attempt) && is_wanting (slice_get kept.progress j)) (sym is) ∙ wants)
    (λ e. ap (λ n. is_wanting (slice_get kept.progress n)) (eqb-true j i e) ∙ ap is_wanting (kept_at kept c i job is at)) same

-- ---- a full pass

pub pass_step : (kept : CheckKept) (c : Check) (a j : ℕ) → kept ≡ check_kept c → wants_in kept a j ≡ true
    → record kept { progress = set kept.progress j Full } ≡ check_kept (and_then c (ToPassFully a j))
pass_step kept c a j is wants =
    let p = and_parts (a == kept.attempt) (is_wanting (slice_get kept.progress j)) wants in
    one kept c (ToPassFully a j) j Full is (λ i job ne. if_out (a == c.attempt) (j == i) (progress_without_state (job_progress c i job)) (job_progress c i job)
    (not_same j i ne))
    (λ job at. sym (if_in (a == c.attempt) (j == j) (progress_without_state (job_progress c j job)) (job_progress c j job)
    (ap (λ (k : CheckKept). a == k.attempt) (sym is) ∙ p.0) (eq-eqb j j refl) ∙ ap progress_without_state (waits kept c j job is p.1 at)))

passes : (p : Progress) → is_wanting (Some p) ≡ false → progress_without_state p ≡ p
passes Wanting e = cc
passes Full e = refl
passes (With s) e = refl
passes (Refused v) e = refl
passes (Done r) e = refl

pub no_pass : (kept : CheckKept) (c : Check) (a j : ℕ) → kept ≡ check_kept c → wants_in kept a j ≡ false → kept ≡ check_kept (and_then c (ToPassFully a j))
no_pass kept c a j is wants = idle kept c (ToPassFully a j) is
    (λ i job at. unchanged kept c a j i job (progress_without_state (job_progress c i job)) is wants at (passes (job_progress c i job)))

-- ---- a report

ready : (r : ReportParts) (p : Progress) → is_ready (Some p) ≡ true → progress_with_report r p ≡ Done r
ready r Wanting e = cc
ready r Full e = refl
ready r (With s) e = refl
ready r (Refused v) e = cc
ready r (Done q) e = cc

pub unready : (r : ReportParts) (p : Progress) → is_ready (Some p) ≡ false → progress_with_report r p ≡ p
unready r Wanting e = refl
unready r Full e = cc
unready r (With s) e = cc
unready r (Refused v) e = refl
unready r (Done q) e = refl

pub report_step : (kept : CheckKept) (c : Check) (b a j : ℕ) (r : ReportParts) → kept ≡ check_kept c → c.boot ≡ b → ready_in kept a j ≡ true
    → record kept { progress = set kept.progress j (Done r) } ≡ check_kept (and_then c (ToReport b a j r))
report_step kept c b a j r is boot ok =
    let p = and_parts (kept.attempt == a) (is_ready (slice_get kept.progress j)) ok in
    let at : (a == c.attempt) ≡ true = eq-eqb a c.attempt (sym (eqb-true c.attempt a (ap (λ (k : CheckKept). k.attempt == a) (sym is) ∙ p.0))) in
    one kept c (ToReport b a j r) j (Done r) is (λ i job ne. if_far (b == c.boot) (a == c.attempt) (j == i) (progress_with_report r (job_progress c i job))
    (job_progress c i job) (not_same j i ne))
    (λ job has_it. sym (if_near (b == c.boot) (a == c.attempt) (j == j) (progress_with_report r (job_progress c j job)) (job_progress c j job)
    (eq-eqb b c.boot (sym boot)) at (eq-eqb j j refl)
    ∙ ready r (job_progress c j job) (ap is_ready (sym (kept_at kept c j job is has_it)) ∙ p.1)))
  where
    if_far : (s t u : Bool) (x y : Progress) → u ≡ false → (if s && (t && u) then x else y) ≡ y
    if_far true t u x y e = if_out t u x y e
    if_far false t u x y e = refl

    if_near : (s t u : Bool) (x y : Progress) → s ≡ true → t ≡ true → u ≡ true → (if s && (t && u) then x else y) ≡ x
    if_near s t u x y e f g = rw (e, f, g) refl

none_at : (f : ℕ → Job → Progress) (jobs : List Job) (i : ℕ) → slice_get jobs i ≡ None → slice_get (map_numbered f 0 jobs) i ≡ None
none_at f jobs i e = slice_get_past (map_numbered f 0 jobs) i (subst (λ n. n ≤ i) (sym (length-numbered f 0 jobs)) (past jobs i e))
  where
    past : (js : List Job) (n : ℕ) → slice_get js n ≡ None → length js ≤ n
    past [] n e = omega arith
    past (job ∷ js) zero e = cc
    past (job ∷ js) (suc n) e = let le = past js n e in omega (arith, le)

pub progress_kept : (kept : CheckKept) (c : Check) (i : ℕ) (o : Option Job) → kept ≡ check_kept c → slice_get c.jobs i ≡ o
    → slice_get kept.progress i ≡ progress_at c i o
progress_kept kept c i None is e = ap (λ (k : CheckKept). slice_get k.progress i) is ∙ none_at (job_progress c) c.jobs i e
progress_kept kept c i (Some job) is e = kept_at kept c i job is e

pub ready_is : (me now_boot : ℕ) (kept : Option CheckKept) (c : Option Check) (a j : ℕ) → OpenIs me now_boot kept c
    → ready_now kept a j ≡ (is_open_attempt a c && is_ready (progress_in c j))
ready_is me now_boot None None a j h = refl
ready_is me now_boot (Some kept) (Some c) a j h =
    ap (λ p. (kept.attempt == a) && is_ready p) (progress_kept kept c j (slice_get c.jobs j) h.is refl)
    ∙ ap (λ (k : CheckKept). (k.attempt == a) && is_ready (progress_at c j (slice_get c.jobs j))) h.is
ready_is me now_boot None (Some c) a j h = absurd h
ready_is me now_boot (Some kept) None a j h = absurd h

pub report_kept : (me now_boot : ℕ) (kept : Option CheckKept) (c : Option Check) (a j : ℕ) (r : ReportParts) → OpenIs me now_boot kept c
    → ready_now kept a j ≡ true
    → OpenIs me now_boot (option_map (with_progress j (Done r)) kept) (check_goes_on (ToReport now_boot a j r) c)
report_kept me now_boot None None a j r h ok = tt
report_kept me now_boot (Some kept) (Some c) a j r h ok =
    record { is = report_step kept c now_boot a j r h.is h.boot_is ok; server = h.server; boot_is = h.boot_is }
report_kept me now_boot None (Some c) a j r h ok = absurd h
report_kept me now_boot (Some kept) None a j r h ok = absurd h

-- ---- a state

pub hold_step : (kept : CheckKept) (c : Check) (a : ℕ) (state : State) (p : Progress) → kept ≡ check_kept c → judgement c.server kept a state ≡ Some p
    → record kept { progress = set kept.progress state.key.job p } ≡ check_kept (and_then c (ToHold a state))
hold_step kept c a state p is h =
    let wants = first (wants_in kept a state.key.job) (judgement_of_job c.server kept.run state (slice_get kept.jobs state.key.job)) h in
    let q = and_parts (a == kept.attempt) (is_wanting (slice_get kept.progress state.key.job)) wants.0 in
    let at : (a == c.attempt) ≡ true = ap (λ (k : CheckKept). a == k.attempt) (sym is) ∙ q.0 in
    one kept c (ToHold a state) state.key.job p is
    (λ i job ne. if_out (a == c.attempt) (state.key.job == i)
    (progress_with_state (misfit state (record { run = c.run; server = c.server; job = i }) job.rec) state (job_progress c i job)) (job_progress c i job)
    (not_same state.key.job i ne))
    (λ job has_it. sym (if_in (a == c.attempt) (state.key.job == state.key.job)
    (progress_with_state (misfit state (record { run = c.run; server = c.server; job = state.key.job }) job.rec) state (job_progress c state.key.job job))
    (job_progress c state.key.job job) at (eq-eqb state.key.job state.key.job refl)
    ∙ ap (progress_with_state (misfit state (record { run = c.run; server = c.server; job = state.key.job }) job.rec) state)
    (waits kept c state.key.job job is q.1 has_it)
    ∙ judged_is job (ap (λ (k : CheckKept). judgement_of_job c.server k.run state (slice_get k.jobs state.key.job)) (sym is) ∙ wants.1) has_it))
  where
    first : (t : Bool) (o : Option Progress) → (if t then o else None) ≡ Some p → (t ≡ true) × (o ≡ Some p)
    first true o e = (refl, e)
    first false o e = cc

    judged_is : (job : Job) → judgement_of_job c.server c.run state (slice_get c.jobs state.key.job) ≡ Some p → slice_get c.jobs state.key.job ≡ Some job
        → progress_with_state (misfit state (record { run = c.run; server = c.server; job = state.key.job }) job.rec) state Wanting ≡ p
    judged_is job e has_it = some_is (sym (ap (judgement_of_job c.server c.run state) has_it) ∙ e)
      where
        some_is : {x : Progress} → Some x ≡ Some p → x ≡ p
        some_is e = cc

-- ---- a report that comes

pub report_refused : (s t : Bool) → s ≡ true → t ≡ false → refused_by s t ≡ Some NotInFlight
report_refused s t e f = rw (e, f) refl

pub report_taken : (s t : Bool) → s ≡ true → t ≡ true → refused_by s t ≡ None
report_taken s t e f = rw (e, f) refl
