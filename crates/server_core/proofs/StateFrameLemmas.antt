-- What a run says of the states of its jobs.
use Rattle.std.proofs.Common.{◌≡◌, refl, sym, ap, ◌∙◌, ℕ, zero, suc, ◌+◌, ◌<◌, ◌≤◌, arith, Bool, true, false}
use Rattle.std.proofs.Common.{◌&&◌, ◌==◌, List, [], ◌∷◌, ◌++◌, length, take, Option, None, Some, append_assoc}
use Rattle.std.specs.Prelude.{if◌then◌else◌, nat_le, nat_lt, slice_get}
use Rattle.std.proofs.Math.Logic.{∥∥₁_elim}
use Rattle.std.specs.Coded.{Coded-set, coded_bool}
use Rattle.std.proofs.lemmas.Bool.{leb-true, and_parts, eqb-true, eq-eqb}
use Rattle.std.proofs.lemmas.Bool.Decides.{nat_tests}
use Rattle.std.proofs.lemmas.List.{take_more, length-take-le}
use Rattle.std.proofs.lemmas.Option.{slice_get_within, get_or_from_slice_get}
use Rattle.fc_base.specs.declared.limits.TheConstants.{MAX_JOBS}
use Rattle.job_file.specs.declared.job.Job.{Job}
use Rattle.messages.specs.declared.body.Body.{Body}
use Rattle.messages.specs.declared.body.Body.TheVariants as bodies
use Rattle.messages.specs.declared.node.Node.TheVariants.{Server, Client}
use Rattle.messages.specs.declared.packet.PacketParts.{PacketParts}
use Rattle.messages.specs.FramesOf.{spelled_frames}
use Rattle.messages.specs.Ranges.{is_body, is_run, is_job_of}
use Rattle.verify_state.specs.State.{State}
use Rattle.server_core.specs.declared.job_run.JobRun.{JobRun}
use Rattle.server_core.specs.Request.{Request}
use Rattle.server_core.specs.Run.{Work, Halt, Triggered, Stopped, halt_of, origin_of, history}
use Rattle.server_core.specs.Taken.{job_state, saved_state}
use Rattle.server_core.specs.Replies.{state_frame, state_frames}
use Rattle.server_core.specs.Framed.{frames_to_client}
use Rattle.server_core.specs.Kept.{Kept, job_kept, RunIs, state_kept, asked_before, before_halt, state_or, state_body}
use Rattle.server_core.proofs.RowLemmas.{row, job_here}
use Rattle.server_core.proofs.NumberedLemmas.{length-numbered}

-- ---- one job

say_if : (t : Bool) (run jobs j : ℕ) (state now : State)
    → state_body run jobs j (state_or (if t then Some state else None) t now) ≡ (if t then bodies.State jobs state else bodies.NoState run j jobs)
say_if true run jobs j state now = refl
say_if false run jobs j state now = refl

range_if : (t : Bool) (taken : Option State) (run jobs j : ℕ) (state now : State) → taken ≡ (if t then Some state else None) → is_run run ≡ true
    → is_job_of j jobs ≡ true → state.key.job ≡ j → now.key.job ≡ j → is_body (state_body run jobs j (state_or taken t now)) ≡ true
range_if true taken run jobs j state now e r of a b = rw (e, a) of
range_if false taken run jobs j state now e r of a b = rw (e, r, of) refl

no_taken : (t : Bool) (run jobs j : ℕ) (now : State) → state_body run jobs j (state_or None t now)
    ≡ (if t then bodies.State jobs now else bodies.NoState run j jobs)
no_taken true run jobs j now = refl
no_taken false run jobs j now = refl

no_taken_range : (t : Bool) (run jobs j : ℕ) (now : State) → is_run run ≡ true → is_job_of j jobs ≡ true → now.key.job ≡ j
    → is_body (state_body run jobs j (state_or None t now)) ≡ true
no_taken_range true run jobs j now r of b = rw b of
no_taken_range false run jobs j now r of b = rw (r, of) refl

frame_by : (w : Work) (j : ℕ) (job : Job) (b : Option Halt) → slice_get w.jobs j ≡ Some job
    → state_body w.run (length w.jobs) j (state_kept (row w j job b (history (origin_of w j job) w.since) false)) ≡ state_frame w j job (before_halt b w.since)
unfolding job_state
frame_by w j job None is = no_taken job.save w.run (length w.jobs) j (job_state (origin_of w j job) w.since)
frame_by w j job (Some Stopped) is = no_taken job.save w.run (length w.jobs) j (job_state (origin_of w j job) w.since)
frame_by w j job (Some (Triggered act before)) is =
    ap (λ x. state_body w.run (length w.jobs) j (state_or (saved_state w j x before) job.save (job_state (origin_of w j job) w.since))) is
    ∙ say_if job.save w.run (length w.jobs) j (job_state (origin_of w j job) before) (job_state (origin_of w j job) w.since)

range_by : (w : Work) (j : ℕ) (job : Job) (b : Option Halt) → slice_get w.jobs j ≡ Some job → is_run w.run ≡ true → is_job_of j (length w.jobs) ≡ true
    → is_body (state_body w.run (length w.jobs) j (state_kept (row w j job b (history (origin_of w j job) w.since) false))) ≡ true
unfolding job_state
range_by w j job None is r of = no_taken_range job.save w.run (length w.jobs) j (job_state (origin_of w j job) w.since) r of refl
range_by w j job (Some Stopped) is r of = no_taken_range job.save w.run (length w.jobs) j (job_state (origin_of w j job) w.since) r of refl
range_by w j job (Some (Triggered act before)) is r of =
    range_if job.save _ w.run (length w.jobs) j (job_state (origin_of w j job) before) (job_state (origin_of w j job) w.since)
    (ap (λ x. saved_state w j x before) is) r of refl refl

one_of : (n j : ℕ) → 1 ≤ n → n ≤ MAX_JOBS → j < n → is_job_of j n ≡ true
one_of n j some few lt = let a : nat_le 1 n ≡ true = grind (arith, nat_tests) in let b : nat_le n MAX_JOBS ≡ true =
    grind (arith, nat_tests) in let c : nat_lt j n ≡ true = grind (arith, nat_tests) in rw (a, b, c) refl

pub body_is : (kept : Kept) (w : Work) (j : ℕ) (k : JobRun) (job : Job) → RunIs kept w → slice_get kept.kept j ≡ Some k → slice_get w.jobs j ≡ Some job
    → state_body kept.number (length kept.jobs) j (state_kept k) ≡ state_frame w j job (asked_before w)
body_is kept w j k job h at is =
    let p = job_here kept w j k h at in
    let same : p.0 ≡ job = some_is p.0 job (sym p.1 ∙ is) in
    ap (λ (x : Kept). state_body x.number (length x.jobs) j (state_kept k)) h.is
    ∙ ap (λ x. state_body w.run (length w.jobs) j (state_kept x)) (p.2 ∙ ap (job_kept w j) same) ∙ frame_by w j job (halt_of w.run w.since) is
  where
    some_is : (a b : Job) → Some a ≡ Some b → a ≡ b
    some_is a b e = cc

pub body_range : (kept : Kept) (w : Work) (j : ℕ) (k : JobRun) → RunIs kept w → slice_get kept.kept j ≡ Some k
    → is_body (state_body kept.number (length kept.jobs) j (state_kept k)) ≡ true
body_range kept w j k h at =
    let p = job_here kept w j k h at in
    ap (λ (x : Kept). is_body (state_body x.number (length x.jobs) j (state_kept k))) h.is
    ∙ ap (λ x. is_body (state_body w.run (length w.jobs) j (state_kept x))) p.2
    ∙ range_by w j p.0 (halt_of w.run w.since) p.1 h.run (one_of (length w.jobs) j h.jobs.within.some h.jobs.within.few (slice_get_within w.jobs j p.0 p.1))

-- ---- all jobs

state_more : (w : Work) (before : List Request) (k : ℕ) (jobs : List Job) (job : Job)
    → state_frames w before k (jobs ++ job ∷ []) ≡ state_frames w before k jobs ++ state_frame w (k + length jobs) job before ∷ []
state_more w before k [] job = let e : k + 0 ≡ k = omega arith in rw e refl
state_more w before k (first ∷ jobs) job = ap (λ ks. state_frame w k first before ∷ ks)
    (state_more w before (k + 1) jobs job ∙ ap (λ n. state_frames w before (k + 1) jobs ++ state_frame w n job before ∷ []) next)
  where
    next : k + 1 + length jobs ≡ k + suc (length jobs)
    next = omega arith

abbrev packet_of : ℕ → Body → PacketParts
packet_of me body = record { from = Server me; to = Client; body = body }

pub framed-append : (me : ℕ) (xs ys : List Body) → frames_to_client me (xs ++ ys) ≡ frames_to_client me xs ++ frames_to_client me ys
framed-append me [] ys = refl
framed-append me (x ∷ xs) ys = ap (λ fs. spelled_frames (packet_of me x) ++ fs) (framed-append me xs ys)
    ∙ sym (append_assoc (spelled_frames (packet_of me x)) (frames_to_client me xs) (frames_to_client me ys))

pub frames_more : (me : ℕ) (w : Work) (before : List Request) (i : ℕ) (job : Job) (old new : List (List ℕ)) (body : Body) → slice_get w.jobs i ≡ Some job
    → old ≡ frames_to_client me (state_frames w before 0 (take i w.jobs)) → new ≡ old ++ frames_to_client me (body ∷ [])
    → body ≡ state_frame w i job before → new ≡ frames_to_client me (state_frames w before 0 (take (i + 1) w.jobs))
frames_more me w before i job old new body at is push body_is =
    let lt = slice_get_within w.jobs i job at in
    let place : i ≡ 0 + length (take i w.jobs) = omega (arith, length-take-le i w.jobs (omega (arith, lt))) in
    push ∙ ap (λ fs. fs ++ frames_to_client me (body ∷ [])) is
    ∙ ap (λ b. frames_to_client me (state_frames w before 0 (take i w.jobs)) ++ frames_to_client me (b ∷ []))
    (body_is ∙ ap (λ n. state_frame w n job before) place)
    ∙ sym (framed-append me (state_frames w before 0 (take i w.jobs)) (state_frame w (0 + length (take i w.jobs)) job before ∷ []))
    ∙ ap (frames_to_client me) (sym (state_more w before 0 (take i w.jobs) job)
    ∙ ap (state_frames w before 0) (sym (take_more w.jobs i job lt ∙ ap (λ j. take i w.jobs ++ j ∷ []) (get_or_from_slice_get w.jobs i job job at))))

-- ---- how many jobs there are

some_at : {A : Type 0} (xs : List A) (i : ℕ) → i < length xs → (x : A) × (slice_get xs i ≡ Some x)
some_at [] i lt = absurd (omega (arith, lt))
some_at (x ∷ xs) zero lt = (x, refl)
some_at (x ∷ xs) (suc i) lt = some_at xs i (omega (arith, lt))

pub lengths : (kept : Kept) (w : Work) → RunIs kept w → (length kept.kept ≡ length w.jobs) × (length kept.jobs ≡ length w.jobs)
lengths kept w h = (ap (λ (k : Kept). length k.kept) h.is ∙ length-numbered (job_kept w) 0 w.jobs, ap (λ (k : Kept). length k.jobs) h.is)

pub job_below : (kept : Kept) (w : Work) (i : ℕ) → RunIs kept w → i < length kept.kept → (job : Job) × (slice_get w.jobs i ≡ Some job)
job_below kept w i h lt = some_at w.jobs i (omega (arith, lt, (lengths kept w h).0))

-- What is known of how many jobs a run has, as a test.
abbrev is_counted : Kept → Bool
is_counted kept = (length kept.kept == length kept.jobs) && (nat_le 1 (length kept.jobs) && nat_le (length kept.jobs) MAX_JOBS)

counted_in : (kept : Kept) (w : Work) → RunIs kept w → is_counted kept ≡ true
counted_in kept w h =
    let l = lengths kept w h in
    let same : length kept.kept ≡ length kept.jobs = l.0 ∙ sym l.1 in
    let some : 1 ≤ length kept.jobs = omega (arith, l.1, h.jobs.within.some) in
    let few : length kept.jobs ≤ MAX_JOBS = omega (arith, l.1, h.jobs.within.few) in
    let a : nat_le 1 (length kept.jobs) ≡ true = grind (arith, nat_tests) in
    let b : nat_le (length kept.jobs) MAX_JOBS ≡ true = grind (arith, nat_tests) in
    rw (a, b) (ap (λ t. t && true) (eq-eqb (length kept.kept) (length kept.jobs) same))

-- What is known of how many jobs a run has.
pub record Counted (kept : Kept) : Type 0 where
  pub same : length kept.kept ≡ length kept.jobs
  pub some : 1 ≤ length kept.jobs
  pub few : length kept.jobs ≤ MAX_JOBS

pub counted_kept : (kept : Kept) → ∥ ((w : Work) × RunIs kept w) ∥₁ → Counted kept
counted_kept kept known =
    let t : is_counted kept ≡ true = ∥∥₁_elim known (Coded-set coded_bool _ _) (λ p. counted_in kept p.0 p.1) in
    let p = and_parts (length kept.kept == length kept.jobs) (nat_le 1 (length kept.jobs) && nat_le (length kept.jobs) MAX_JOBS) t in
    let q = and_parts (nat_le 1 (length kept.jobs)) (nat_le (length kept.jobs) MAX_JOBS) p.1 in
    record { same = eqb-true _ _ p.0; some = leb-true _ _ q.0; few = leb-true _ _ q.1 }

pub body_in_range : (kept : Kept) (j : ℕ) (k : JobRun) → ∥ ((w : Work) × RunIs kept w) ∥₁ → slice_get kept.kept j ≡ Some k
    → is_body (state_body kept.number (length kept.jobs) j (state_kept k)) ≡ true
body_in_range kept j k known at = ∥∥₁_elim known (Coded-set coded_bool _ _) (λ p. body_range kept p.0 j k p.1 at)
