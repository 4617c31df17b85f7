-- What a server keeps is as it was asked: the jobs of what is staged, of a run and of a check are sets, and what holds of
-- the numbers in all requests holds of theirs.
use Rattle.std.proofs.Common.{◌≡◌, refl, subst, ℕ, zero, suc, Bool, true, false, ◌&&◌, ◌==◌, List, [], ◌∷◌, Option, None, Some}
use Rattle.std.specs.Prelude.{if◌then◌else◌, not, nat_lt, slice_get, Result, Ok, Err}
use Rattle.std.specs.List.{AllByRecursion}
use Rattle.job_file.specs.declared.fault.JobFault.{JobFault}
use Rattle.job_file.specs.declared.job.Job.{Job}
use Rattle.job_file.specs.declared.job.Phase.{Phase}
use Rattle.job_file.specs.declared.job.Phase.TheVariants.{Read, Write}
use Rattle.job_file.specs.JobSet.{jobs_of, phase_in, refusal_of}
use Rattle.job_file.specs.Laws.{JobsAreWithinLimits, JobsFit}
use Rattle.disk_model.specs.declared.save_outcome.SaveOutcome.{SaveOutcome}
use Rattle.disk_model.specs.declared.save_outcome.SaveOutcome.TheVariants.{NoSave, Saved, LostNew, LostOld}
use Rattle.server_core.specs.Inputs.{PacketInput}
use Rattle.server_core.specs.History.{Opening, Entry, Met, Cut, Restart}
use Rattle.server_core.specs.Request.{Request, ToStage, ToStart, ToTrigger, ToMark, ToStop, ToVerify}
use Rattle.server_core.specs.Request.{ToHold, ToPassFully, ToIssue, ToEnd, ToReport, ToNobody, request_of}
use Rattle.server_core.specs.Texts.{jobs_by, jobs_for, is_phase}
use Rattle.server_core.specs.Run.{Work, goes_on, is_open, is_unended}
use Rattle.server_core.specs.Words.{Staged, staged_by, stages, staged_after, greater, greatest, for_run}
use Rattle.server_core.specs.Words.{due_by, work_after, is_on, boot, last_run, stagings, staged_run, work, due}
use Rattle.server_core.specs.Check.{Check, is_above, new_check, opens, check_goes_on, or_opened, check_after, check}
use Rattle.server_core.specs.Laws.{IsSet, TextsGiveSets}

no_fault : (fault : Option JobFault) (right : Bool) (found js : List Job) → jobs_by fault right found ≡ Ok js → (fault ≡ None) × (found ≡ js)
no_fault None true found js h = (refl, cc)
no_fault None false found js h = cc
no_fault (Some f) right found js h = cc

pub text_set : JobsAreWithinLimits → JobsFit → (phase : Phase) (text : List ℕ) (js : List Job) → jobs_for phase text ≡ Ok js → IsSet js
unfolding jobs_for
text_set within fit phase text js h =
    let p = no_fault (refusal_of text) (is_phase phase (phase_in text)) (jobs_of text) js h in
    subst IsSet p.1 (record { within = within text p.0; widths = fit text })

-- What is known of all requests: Q of each, and so R of each run and A of each attempt that a text comes for.
pub record Rules (Q : Request → Type 0) (R A : ℕ → Type 0) : Type 0 where
  pub texts : TextsGiveSets
  pub to_stage : (r : ℕ) (text : List ℕ) → Q (ToStage r text) → R r
  pub to_verify : (r a : ℕ) (text : List ℕ) → Q (ToVerify r a text) → R r × A a

-- It is known of all that came.
abbrev pub AllAsked : (Request → Type 0) → ℕ → List Entry → Type 0
AllAsked Q me [] = Unit {0}
AllAsked Q me (Met e left ∷ past) = Q (request_of me e) × AllAsked Q me past
AllAsked Q me (Cut ∷ past) = AllAsked Q me past
AllAsked Q me (Restart left ∷ past) = AllAsked Q me past

pub record StagedFits (R : ℕ → Type 0) (s : Staged) : Type 0 where
  pub run : R s.run
  pub jobs : IsSet s.jobs

abbrev pub SomeStaged : (ℕ → Type 0) → Option Staged → Type 0
SomeStaged R None = Unit {0}
SomeStaged R (Some s) = StagedFits R s

pub record WorkFits (R : ℕ → Type 0) (w : Work) : Type 0 where
  pub run : R w.run
  pub jobs : IsSet w.jobs

abbrev pub SomeWork : (ℕ → Type 0) → Option Work → Type 0
SomeWork R None = Unit {0}
SomeWork R (Some w) = WorkFits R w

pub record CheckFits (Q : Request → Type 0) (R A : ℕ → Type 0) (c : Check) : Type 0 where
  pub run : R c.run
  pub attempt : A c.attempt
  pub jobs : IsSet c.jobs
  pub since : AllByRecursion Q c.since

abbrev pub SomeCheck : (Request → Type 0) → (ℕ → Type 0) → (ℕ → Type 0) → Option Check → Type 0
SomeCheck Q R A None = Unit {0}
SomeCheck Q R A (Some c) = CheckFits Q R A c

-- ---- what is staged

if_staged : (R : ℕ → Type 0) (t : Bool) (s : Option Staged) → SomeStaged R s → SomeStaged R (if t then s else None)
if_staged R true s h = h
if_staged R false s h = tt

by_text : (R : ℕ → Type 0) (r : ℕ) (found : Result (List Job) ℕ) → R r → ((js : List Job) → found ≡ Ok js → IsSet js) → SomeStaged R (staged_by r found)
by_text R r (Ok js) h f = record { run = h; jobs = f js refl }
by_text R r (Err value) h f = tt

stages_fit : (Q : Request → Type 0) (R A : ℕ → Type 0) → Rules Q R A → (on : Bool) (last : ℕ) (now : Option Work) (x : Request) → Q x
    → SomeStaged R (stages on last now x)
stages_fit Q R A k on last now (ToStage r text) q =
    if_staged R (on && (nat_lt last r && not (is_open now))) (staged_by r (jobs_for Write text))
    (by_text R r (jobs_for Write text) (k.to_stage r text q) (k.texts Write text))
stages_fit Q R A k on last now (ToStart r) q = tt
stages_fit Q R A k on last now (ToTrigger r act) q = tt
stages_fit Q R A k on last now (ToMark r j) q = tt
stages_fit Q R A k on last now (ToStop r) q = tt
stages_fit Q R A k on last now (ToVerify r a text) q = tt
stages_fit Q R A k on last now (ToHold a state) q = tt
stages_fit Q R A k on last now (ToPassFully a j) q = tt
stages_fit Q R A k on last now (ToIssue j) q = tt
stages_fit Q R A k on last now (ToEnd ticket end) q = tt
stages_fit Q R A k on last now (ToReport b a j report) q = tt
stages_fit Q R A k on last now ToNobody q = tt

after_fits : (R : ℕ → Type 0) (left : SaveOutcome) (new : Option Staged) (older : List Staged) → SomeStaged R new → AllByRecursion (StagedFits R) older
    → AllByRecursion (StagedFits R) (staged_after left new older)
after_fits R NoSave None older h k = k
after_fits R NoSave (Some s) older h k = (h, k)
after_fits R Saved None older h k = k
after_fits R Saved (Some s) older h k = (h, k)
after_fits R LostNew new older h k = tt
after_fits R LostOld new older h k = tt

pick : (R : ℕ → Type 0) (t : Bool) (s older : Staged) → StagedFits R s → StagedFits R older → SomeStaged R (if t then Some s else Some older)
pick R true s older h k = h
pick R false s older h k = k

greater_fits : (R : ℕ → Type 0) (last : ℕ) (s : Staged) (found : Option Staged) → StagedFits R s → SomeStaged R found → SomeStaged R (greater last s found)
greater_fits R last s None h k = if_staged R (nat_lt last s.run) (Some s) h
greater_fits R last s (Some older) h k = pick R (nat_lt older.run s.run) s older h k

greatest_fits : (R : ℕ → Type 0) (last : ℕ) (ss : List Staged) → AllByRecursion (StagedFits R) ss → SomeStaged R (greatest last ss)
greatest_fits R last [] h = tt
greatest_fits R last (s ∷ older) h = greater_fits R last s (greatest last older) h.0 (greatest_fits R last older h.1)

pub for_run_fits : (R : ℕ → Type 0) (r : ℕ) (s : Option Staged) → SomeStaged R s → SomeStaged R (for_run r s)
for_run_fits R r None h = tt
for_run_fits R r (Some s) h = if_staged R (s.run == r) (Some s) h

due_fits : (R : ℕ → Type 0) (on : Bool) (last : ℕ) (s : Option Staged) (now : Option Work) (x : Request) → SomeStaged R s
    → SomeStaged R (due_by on last s now x)
due_fits R on last s now (ToStart r) h = if_staged R (on && (nat_lt last r && not (is_open now))) (for_run r s) (for_run_fits R r s h)
due_fits R on last s now (ToStage r text) h = tt
due_fits R on last s now (ToTrigger r act) h = tt
due_fits R on last s now (ToMark r j) h = tt
due_fits R on last s now (ToStop r) h = tt
due_fits R on last s now (ToVerify r a text) h = tt
due_fits R on last s now (ToHold a state) h = tt
due_fits R on last s now (ToPassFully a j) h = tt
due_fits R on last s now (ToIssue j) h = tt
due_fits R on last s now (ToEnd ticket end) h = tt
due_fits R on last s now (ToReport b a j report) h = tt
due_fits R on last s now ToNobody h = tt

-- ---- the present run

on_fits : (R : ℕ → Type 0) (x : Request) (w : Option Work) → SomeWork R w → SomeWork R (goes_on x w)
on_fits R x None h = tt
on_fits R x (Some w) h = record { run = h.run; jobs = h.jobs }

work_fits : (R : ℕ → Type 0) (left : SaveOutcome) (d : Option Staged) (me b : ℕ) (x : Request) (w : Option Work) → SomeStaged R d → SomeWork R w
    → SomeWork R (work_after left d me b x w)
work_fits R NoSave d me b x w h k = on_fits R x w k
work_fits R Saved None me b x w h k = on_fits R x w k
work_fits R Saved (Some s) me b x w h k = record { run = h.run; jobs = h.jobs }
work_fits R LostNew d me b x w h k = tt
work_fits R LostOld d me b x w h k = tt

-- ---- the open check

opened_fits : (Q : Request → Type 0) (R A : ℕ → Type 0) (me b r a : ℕ) (found : Result (List Job) ℕ) → R r → A a → ((js : List Job) → found ≡ Ok js → IsSet js)
    → SomeCheck Q R A (new_check me b r a found)
opened_fits Q R A me b r a (Ok js) h k f = record { run = h; attempt = k; jobs = f js refl; since = tt }
opened_fits Q R A me b r a (Err value) h k f = tt

if_opened : (Q : Request → Type 0) (R A : ℕ → Type 0) (t : Bool) (c : Option Check) → SomeCheck Q R A c → SomeCheck Q R A (if t then c else None)
if_opened Q R A true c h = h
if_opened Q R A false c h = tt

opens_fit : (Q : Request → Type 0) (R A : ℕ → Type 0) → Rules Q R A → (on : Bool) (me b last : ℕ) (w : Option Work) (old : Option Check) (x : Request) → Q x
    → SomeCheck Q R A (opens on me b last w old x)
opens_fit Q R A k on me b last w old (ToVerify r a text) q =
    let n = k.to_verify r a text q in
    if_opened Q R A (on && ((r == last) && (is_above a old && (not (is_open w) && not (is_unended w))))) (new_check me b r a (jobs_for Read text))
    (opened_fits Q R A me b r a (jobs_for Read text) n.0 n.1 (k.texts Read text))
opens_fit Q R A k on me b last w old (ToStage r text) q = tt
opens_fit Q R A k on me b last w old (ToStart r) q = tt
opens_fit Q R A k on me b last w old (ToTrigger r act) q = tt
opens_fit Q R A k on me b last w old (ToMark r j) q = tt
opens_fit Q R A k on me b last w old (ToStop r) q = tt
opens_fit Q R A k on me b last w old (ToHold a state) q = tt
opens_fit Q R A k on me b last w old (ToPassFully a j) q = tt
opens_fit Q R A k on me b last w old (ToIssue j) q = tt
opens_fit Q R A k on me b last w old (ToEnd ticket end) q = tt
opens_fit Q R A k on me b last w old (ToReport c a j report) q = tt
opens_fit Q R A k on me b last w old ToNobody q = tt

goes_fit : (Q : Request → Type 0) (R A : ℕ → Type 0) (x : Request) (new old : Option Check) → Q x → SomeCheck Q R A new → SomeCheck Q R A old
    → SomeCheck Q R A (or_opened new (check_goes_on x old))
goes_fit Q R A x (Some c) old q h k = h
goes_fit Q R A x None None q h k = tt
goes_fit Q R A x None (Some c) q h k = record { run = k.run; attempt = k.attempt; jobs = k.jobs; since = (q, k.since) }

check_fits : (Q : Request → Type 0) (R A : ℕ → Type 0) (left : SaveOutcome) (d : Option Staged) (x : Request) (new old : Option Check) → Q x → SomeCheck Q R A new
    → SomeCheck Q R A old → SomeCheck Q R A (check_after left d new x old)
check_fits Q R A NoSave d x new old q h k = goes_fit Q R A x new old q h k
check_fits Q R A Saved None x new old q h k = goes_fit Q R A x new old q h k
check_fits Q R A Saved (Some s) x new old q h k = tt
check_fits Q R A LostNew d x new old q h k = tt
check_fits Q R A LostOld d x new old q h k = tt

-- ---- the words of a list

pub record Known (Q : Request → Type 0) (R A : ℕ → Type 0) (o : Opening) (past : List Entry) : Type 0 where
  pub all_staged : AllByRecursion (StagedFits R) (stagings o past)
  pub run : SomeWork R (work o past)
  pub check_is : SomeCheck Q R A (check o past)

pub staged_fits : (Q : Request → Type 0) (R A : ℕ → Type 0) (o : Opening) (past : List Entry) → Known Q R A o past → SomeStaged R (staged_run o past)
staged_fits Q R A o past k = greatest_fits R (last_run o past) (stagings o past) k.all_staged

pub due_known : (Q : Request → Type 0) (R A : ℕ → Type 0) (o : Opening) (past : List Entry) (e : PacketInput) → Known Q R A o past → SomeStaged R (due o past e)
due_known Q R A o past e k = due_fits R (is_on past) (last_run o past) (staged_run o past) (work o past) (request_of o.me e) (staged_fits Q R A o past k)

pub known : (Q : Request → Type 0) (R A : ℕ → Type 0) → Rules Q R A → (o : Opening) (past : List Entry) → AllAsked Q o.me past → Known Q R A o past
known Q R A rules o [] h = record { all_staged = tt; run = tt; check_is = tt }
known Q R A rules o (Met e left ∷ past) h =
    let k = known Q R A rules o past h.1 in
    let x = request_of o.me e in
    record {
      all_staged = after_fits R left (stages (is_on past) (last_run o past) (work o past) x) (stagings o past)
          (stages_fit Q R A rules (is_on past) (last_run o past) (work o past) x h.0) k.all_staged;
      run = work_fits R left (due o past e) o.me (boot o past) x (work o past) (due_known Q R A o past e k) k.run;
      check_is = check_fits Q R A left (due o past e) x (opens (is_on past) o.me (boot o past) (last_run o past) (work o past) (check o past) x)
          (check o past) h.0
          (opens_fit Q R A rules (is_on past) o.me (boot o past) (last_run o past) (work o past) (check o past) x h.0) k.check_is;
    }
known Q R A rules o (Cut ∷ past) h = record { all_staged = tt; run = tt; check_is = tt }
known Q R A rules o (Restart left ∷ past) h = record { all_staged = tt; run = tt; check_is = tt }

-- ---- the sets alone, of which nothing needs to be known

abbrev AnyRequest : Request → Type 0
AnyRequest x = Unit {0}

abbrev AnyNumber : ℕ → Type 0
AnyNumber n = Unit {0}

any_asked : (me : ℕ) (past : List Entry) → AllAsked AnyRequest me past
any_asked me [] = tt
any_asked me (Met e left ∷ past) = (tt, any_asked me past)
any_asked me (Cut ∷ past) = any_asked me past
any_asked me (Restart left ∷ past) = any_asked me past

known_sets : TextsGiveSets → (o : Opening) (past : List Entry) → Known AnyRequest AnyNumber AnyNumber o past
known_sets texts o past =
    known AnyRequest AnyNumber AnyNumber (record { texts = texts; to_stage = λ r text q. tt; to_verify = λ r a text q. (tt, tt) }) o past (any_asked o.me past)

pub staged_set : TextsGiveSets → (o : Opening) (past : List Entry) (s : Staged) → staged_run o past ≡ Some s → IsSet s.jobs
staged_set texts o past s h =
    let k : StagedFits AnyNumber s = subst (λ v. SomeStaged AnyNumber v) h (staged_fits AnyRequest AnyNumber AnyNumber o past (known_sets texts o past)) in
    k.jobs

pub run_set : TextsGiveSets → (o : Opening) (past : List Entry) (w : Work) → work o past ≡ Some w → IsSet w.jobs
run_set texts o past w h =
    let k : WorkFits AnyNumber w = subst (λ v. SomeWork AnyNumber v) h (known_sets texts o past).run in
    k.jobs

pub check_set : TextsGiveSets → (o : Opening) (past : List Entry) (c : Check) → check o past ≡ Some c → IsSet c.jobs
check_set texts o past c h =
    let k : CheckFits AnyRequest AnyNumber AnyNumber c = subst (λ v. SomeCheck AnyRequest AnyNumber AnyNumber v) h (known_sets texts o past).check_is in
    k.jobs

-- What holds of all jobs holds of each.
pub job_at : (P : Job → Type 0) (jobs : List Job) (j : ℕ) (job : Job) → AllByRecursion P jobs → slice_get jobs j ≡ Some job → P job
job_at P [] j job h e = cc
job_at P (first ∷ jobs) zero job h e = let same : first ≡ job = cc in subst P same h.0
job_at P (first ∷ jobs) (suc j) job h e = job_at P jobs j job h.1 e
