-- What a state that comes makes of a check.
use Rattle.std.proofs.Common.{◌≡◌, refl, sym, ap, ◌∙◌, ℕ, arith, Bool, true, false, ◌&&◌, ◌==◌, List, [], length, Option, None, Some}
use Rattle.std.specs.Prelude.{if◌then◌else◌, slice_get, nat_lt, MatchOption}
use Rattle.std.proofs.lemmas.Bool.Decides.{nat_tests}
use Rattle.std.specs.Option.{option_map}
use Rattle.std.proofs.lemmas.Bool.{and_parts, eq-eqb}
use Rattle.std.proofs.lemmas.Option.{slice_get_within}
use Rattle.fc_base.specs.declared.fault.Fault.{Fault}
use Rattle.job_file.specs.declared.job.Job.{Job}
use Rattle.verify_state.specs.State.{State}
use Rattle.verify_state.specs.Misfit.{misfit}
use Rattle.server_core.specs.declared.progress.Progress.{Progress as Stored}
use Rattle.server_core.specs.Request.{ToHold}
use Rattle.server_core.specs.Check.{Check, Progress, Wanting, Full, With, Refused, Done, progress_with_state, check_goes_on}
use Rattle.server_core.specs.Replies.{progress_frame, misfit_frame, reply_to_state_for, reply_to_state}
use Rattle.server_core.specs.KeptCheck.{CheckKept, check_kept, job_progress, is_wanting, wants_in, with_progress}
use Rattle.server_core.specs.KeptCheck.{has_job, progress_of, judgement, judgement_of_job, judgement_now}
use Rattle.server_core.specs.Stands.{OpenIs}
use Rattle.server_core.specs.InnerCalls.{frame_now}
use Rattle.server_core.proofs.CheckedLemmas.{and_then, idle, if_in, unchanged, kept_at, waits, progress_kept, hold_step}

held_stays : (m : Option Fault) (state : State) (p : Progress) → is_wanting (Some p) ≡ false → progress_with_state m state p ≡ p
held_stays m state Wanting e = cc
held_stays m state Full e = refl
held_stays m state (With s) e = refl
held_stays m state (Refused v) e = refl
held_stays m state (Done q) e = refl

-- A state that no job waits for changes nothing.
pub no_hold : (kept : CheckKept) (c : Check) (a : ℕ) (state : State) → kept ≡ check_kept c → wants_in kept a state.key.job ≡ false
    → kept ≡ check_kept (and_then c (ToHold a state))
no_hold kept c a state is wants =
    idle kept c (ToHold a state) is
    (λ i job at. unchanged kept c a state.key.job i job (progress_with_state (misfit state (record { run = c.run; server = c.server; job = i }) job.rec) state
    (job_progress c i job)) is wants at
    (held_stays (misfit state (record { run = c.run; server = c.server; job = i }) job.rec) state (job_progress c i job)))

-- A job that waits is there.
job_waits : (kept : CheckKept) (c : Check) (j : ℕ) (o : Option Job) → kept ≡ check_kept c → slice_get c.jobs j ≡ o
    → is_wanting (slice_get kept.progress j) ≡ true → (job : Job) × (o ≡ Some job)
job_waits kept c j None is e w = none (sym (ap is_wanting (progress_kept kept c j None is e)) ∙ w)
  where
    none : false ≡ true → (job : Job) × (None ≡ Some job)
    none e = cc
job_waits kept c j (Some job) is e w = (job, refl)

first : (t : Bool) (o : Option Progress) (p : Progress) → (if t then o else None) ≡ Some p → (t ≡ true) × (o ≡ Some p)
first true o p e = (refl, e)
first false o p e = cc

pub hold_kept : (me now_boot : ℕ) (kept : Option CheckKept) (c : Option Check) (a : ℕ) (state : State) (p : Progress) → OpenIs me now_boot kept c
    → judgement_now me kept a state ≡ Some p
    → OpenIs me now_boot (option_map (with_progress state.key.job p) kept) (check_goes_on (ToHold a state) c)
hold_kept me now_boot None None a state p h e = tt
hold_kept me now_boot (Some kept) (Some c) a state p h e =
    record { is = hold_step kept c a state p h.is (ap (λ n. judgement n kept a state) h.server ∙ e); server = h.server; boot_is = h.boot_is }
hold_kept me now_boot None (Some c) a state p h e = absurd h
hold_kept me now_boot (Some kept) None a state p h e = absurd h

-- Where nothing is made of a state, no job waits for it.
unjudged : (me : ℕ) (kept : CheckKept) (c : Check) (a : ℕ) (state : State) → kept ≡ check_kept c → judgement me kept a state ≡ None
    → wants_in kept a state.key.job ≡ false
unjudged me kept c a state is e = by_test (wants_in kept a state.key.job) refl e
  where
    by_test : (t : Bool) → wants_in kept a state.key.job ≡ t
        → (if t then judgement_of_job me kept.run state (slice_get kept.jobs state.key.job) else None) ≡ None → t ≡ false
    by_test false w e = refl
    by_test true w e =
        let q = job_waits kept c state.key.job (slice_get c.jobs state.key.job) is refl
        (and_parts (a == kept.attempt) (is_wanting (slice_get kept.progress state.key.job)) w).1 in
        absurd (no (sym (ap (λ (k : CheckKept). judgement_of_job me kept.run state (slice_get k.jobs state.key.job)) is
        ∙ ap (judgement_of_job me kept.run state) q.1) ∙ e))
      where
        no : {x : Progress} → Some x ≡ None → ⊥
        no e = cc

pub hold_nothing : (me now_boot : ℕ) (kept : Option CheckKept) (c : Option Check) (a : ℕ) (state : State) → OpenIs me now_boot kept c
    → judgement_now me kept a state ≡ None → OpenIs me now_boot kept (check_goes_on (ToHold a state) c)
hold_nothing me now_boot None None a state h e = tt
hold_nothing me now_boot (Some kept) (Some c) a state h e =
    record { is = no_hold kept c a state h.is (unjudged me kept c a state h.is e); server = h.server; boot_is = h.boot_is }
hold_nothing me now_boot None (Some c) a state h e = absurd h
hold_nothing me now_boot (Some kept) None a state h e = absurd h

-- ---- what is replied

misfit_said : (c : Check) (j : ℕ) (m : Option Fault) (state : State)
    → misfit_frame c j Wanting (progress_with_state m state Wanting) ≡ progress_frame c j (progress_with_state m state Wanting)
misfit_said c j None state = refl
misfit_said c j (Some fault) state = refl

misfit_unsaid : (c : Check) (j : ℕ) (p q : Progress) → is_wanting (Some p) ≡ false → misfit_frame c j p q ≡ []
misfit_unsaid c j Wanting q e = cc
misfit_unsaid c j Full q e = refl
misfit_unsaid c j (With s) q e = refl
misfit_unsaid c j (Refused v) q e = refl
misfit_unsaid c j (Done r) q e = refl

misfit_same : (c : Check) (j : ℕ) (p : Progress) → misfit_frame c j p p ≡ []
misfit_same c j Wanting = refl
misfit_same c j Full = refl
misfit_same c j (With s) = refl
misfit_same c j (Refused v) = refl
misfit_same c j (Done r) = refl

unsaid : (c : Check) (j : ℕ) (t u w : Bool) (p q : Progress) → (t && w) ≡ false → w ≡ is_wanting (Some p) → misfit_frame c j p (if t && u then q else p) ≡ []
unsaid c j false u w p q e f = misfit_same c j p
unsaid c j true u w p q e f = misfit_unsaid c j p (if u then q else p) (sym f ∙ e)

unheld_for : (c : Check) (kept : CheckKept) (a : ℕ) (state : State) (o : Option Job) → kept ≡ check_kept c → wants_in kept a state.key.job ≡ false
    → slice_get c.jobs state.key.job ≡ o → reply_to_state_for c a state o ≡ []
unheld_for c kept a state None is w e = refl
unheld_for c kept a state (Some job) is w e =
    unsaid c state.key.job (a == c.attempt) (state.key.job == state.key.job) (is_wanting (slice_get kept.progress state.key.job))
    (job_progress c state.key.job job)
    (progress_with_state (misfit state (record { run = c.run; server = c.server; job = state.key.job }) job.rec) state (job_progress c state.key.job job))
    (ap (λ (k : CheckKept). (a == k.attempt) && is_wanting (slice_get kept.progress state.key.job)) (sym is) ∙ w)
    (ap is_wanting (kept_at kept c state.key.job job is e))

pub reply_unheld : (me now_boot : ℕ) (kept : Option CheckKept) (c : Option Check) (a : ℕ) (state : State) → OpenIs me now_boot kept c
    → judgement_now me kept a state ≡ None → reply_to_state a state c ≡ []
reply_unheld me now_boot None None a state h e = refl
reply_unheld me now_boot (Some kept) (Some c) a state h e =
    unheld_for c kept a state (slice_get c.jobs state.key.job) h.is (unjudged me kept c a state h.is e) refl
reply_unheld me now_boot None (Some c) a state h e = absurd h
reply_unheld me now_boot (Some kept) None a state h e = absurd h

held_for : (c : Check) (kept : CheckKept) (a : ℕ) (state : State) (p : Progress) (job : Job) → kept ≡ check_kept c → judgement c.server kept a state ≡ Some p
    → slice_get c.jobs state.key.job ≡ Some job → reply_to_state_for c a state (Some job) ≡ progress_frame c state.key.job p
held_for c kept a state p job is e at =
    let w = first (wants_in kept a state.key.job) (judgement_of_job c.server kept.run state (slice_get kept.jobs state.key.job)) p e in
    let q = and_parts (a == kept.attempt) (is_wanting (slice_get kept.progress state.key.job)) w.0 in
    let m = misfit state (record { run = c.run; server = c.server; job = state.key.job }) job.rec in
    let waiting : job_progress c state.key.job job ≡ Wanting = waits kept c state.key.job job is q.1 at in
    let told : progress_with_state m state Wanting ≡ p =
    some_is (sym (ap (λ (k : CheckKept). judgement_of_job c.server k.run state (slice_get k.jobs state.key.job)) is
    ∙ ap (judgement_of_job c.server c.run state) at) ∙ w.1) in
    ap (λ x. misfit_frame c state.key.job (job_progress c state.key.job job) x)
    (if_in (a == c.attempt) (state.key.job == state.key.job) (progress_with_state m state (job_progress c state.key.job job)) (job_progress c state.key.job job)
    (ap (λ (k : CheckKept). a == k.attempt) (sym is) ∙ q.0) (eq-eqb state.key.job state.key.job refl))
    ∙ ap (λ x. misfit_frame c state.key.job x (progress_with_state m state x)) waiting ∙ misfit_said c state.key.job m state
    ∙ ap (progress_frame c state.key.job) told
  where
    some_is : {x : Progress} → Some x ≡ Some p → x ≡ p
    some_is e = cc

pub reply_held : (me now_boot : ℕ) (kept : Option CheckKept) (c : Option Check) (a : ℕ) (state : State) (p : Progress) → OpenIs me now_boot kept c
    → judgement_now me kept a state ≡ Some p → reply_to_state a state c ≡ frame_now state.key.job p c
reply_held me now_boot None None a state p h e = refl
reply_held me now_boot (Some kept) (Some c) a state p h e =
    let mine : judgement c.server kept a state ≡ Some p = ap (λ n. judgement n kept a state) h.server ∙ e in
    let w = first (wants_in kept a state.key.job) (judgement_of_job c.server kept.run state (slice_get kept.jobs state.key.job)) p mine in
    let q = job_waits kept c state.key.job (slice_get c.jobs state.key.job) h.is refl
    (and_parts (a == kept.attempt) (is_wanting (slice_get kept.progress state.key.job)) w.0).1 in
    ap (reply_to_state_for c a state) q.1 ∙ held_for c kept a state p q.0 h.is mine q.1
reply_held me now_boot None (Some c) a state p h e = absurd h
reply_held me now_boot (Some kept) None a state p h e = absurd h

-- ---- what is judged is there

wants_there : (p : Option Progress) (ps : List Progress) (j : ℕ) → slice_get ps j ≡ p → is_wanting p ≡ true → nat_lt j (length ps) ≡ true
wants_there None ps j e w = cc
wants_there (Some p) ps j e w = let lt = slice_get_within ps j p e in grind (arith, nat_tests)

pub judged_there : (r : Option Stored) (me : ℕ) (kept : Option CheckKept) (one : CheckKept) (a : ℕ) (state : State) → kept ≡ Some one
    → option_map progress_of r ≡ judgement me one a state → MatchOption r (Unit {0}) (λ p. has_job kept state.key.job ≡ true)
judged_there None me kept one a state is e = tt
judged_there (Some p) me kept one a state is e =
    let w = first (wants_in one a state.key.job) (judgement_of_job me one.run state (slice_get one.jobs state.key.job)) (progress_of p) (sym e) in
    ap (λ k. has_job k state.key.job) is ∙ wants_there (slice_get one.progress state.key.job) one.progress state.key.job refl
    (and_parts (a == one.attempt) (is_wanting (slice_get one.progress state.key.job)) w.0).1
