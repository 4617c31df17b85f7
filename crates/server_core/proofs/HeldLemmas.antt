-- A state that a check is made with fits, and came in this life.
use Rattle.std.proofs.Common.{◌≡◌, refl, sym, subst, ◌⊎◌, inl, inr, ℕ, Bool, true, false, ◌&&◌, ◌==◌, List, [], ◌∷◌, Option, None, Some}
use Rattle.std.specs.Prelude.{if◌then◌else◌, not, slice_get, Result, Ok, Err, bytes_eq, Contains}
use Rattle.std.proofs.lemmas.Bool.{eqb-true, and_parts}
use Rattle.std.proofs.lemmas.List.Elements.{Contains-append_right}
use Rattle.fc_base.specs.declared.fault.Fault.{Fault}
use Rattle.fc_base.specs.declared.fault.Fault.TheVariants.{OtherKey, OtherJob, OtherPlace}
use Rattle.fc_base.specs.declared.numbers.Key.{Key}
use Rattle.fc_base.specs.declared.record.JobParts.{JobParts}
use Rattle.job_file.specs.declared.job.Job.{Job}
use Rattle.job_file.specs.declared.job.Phase.TheVariants.{Read}
use Rattle.write_order.specs.Places.{place}
use Rattle.verify_state.specs.State.{State}
use Rattle.fc_base.specs.Keys.{is_same_key}
use Rattle.disk_model.specs.declared.save_outcome.SaveOutcome.{SaveOutcome}
use Rattle.disk_model.specs.declared.save_outcome.SaveOutcome.TheVariants.{NoSave, Saved, LostNew, LostOld}
use Rattle.server_core.specs.History.{Opening, Entry, Met, Cut, Restart}
use Rattle.server_core.specs.Request.{Request, ToStage, ToStart, ToTrigger, ToMark, ToStop, ToVerify}
use Rattle.server_core.specs.Request.{ToHold, ToPassFully, ToIssue, ToEnd, ToReport, ToNobody, request_of}
use Rattle.server_core.specs.Texts.{jobs_for}
use Rattle.verify_state.specs.Misfit.{misfit, is_of_job}
use Rattle.server_core.specs.Run.{Work, is_open, is_unended}
use Rattle.server_core.specs.Words.{Staged, is_on, boot, last_run_after, last_run, work, due}
use Rattle.server_core.proofs.KeyLemmas.{same_key}
use Rattle.fc_base.proofs.ListLemmas.{first_of}
use Rattle.server_core.proofs.WorkLemmas.{unsaved}
use Rattle.server_core.specs.Check.{Check, Progress, Wanting, Full, With, Refused, Done, progress_with_state, progress_without_state}
use Rattle.server_core.specs.Check.{progress_with_report, progress_by, progress_at_first, progress_after, progress_at, progress_in}
use Rattle.server_core.specs.Check.{is_above, new_check, opens, check_goes_on, or_opened, check_after, check, progress}

-- The check is of the last run, of this server and boot.
pub record IsOf (me now_boot last : ℕ) (c : Check) : Type 0 where
  pub server : c.server ≡ me
  pub boot_is : c.boot ≡ now_boot
  pub run : c.run ≡ last

abbrev pub Of : ℕ → ℕ → ℕ → Option Check → Type 0
Of me now_boot last None = Unit {0}
Of me now_boot last (Some c) = IsOf me now_boot last c

opened_of : (me now_boot r a last : ℕ) (jobs : Result (List Job) ℕ) → r ≡ last → Of me now_boot last (new_check me now_boot r a jobs)
opened_of me now_boot r a last (Ok js) e = record { server = refl; boot_is = refl; run = e }
opened_of me now_boot r a last (Err value) e = tt

chosen : (t u : Bool) (me now_boot last : ℕ) (c : Option Check) → (t ≡ true → Of me now_boot last c) → Of me now_boot last (if u && t then c else None)
chosen true true me now_boot last c f = f refl
chosen true false me now_boot last c f = tt
chosen false true me now_boot last c f = tt
chosen false false me now_boot last c f = tt

opens_of : (on : Bool) (me now_boot last : ℕ) (now : Option Work) (old : Option Check) (x : Request) → Of me now_boot last (opens on me now_boot last now old x)
opens_of on me now_boot last now old (ToVerify r a text) =
    chosen ((r == last) && (is_above a old && (not (is_open now) && not (is_unended now)))) on me now_boot last (new_check me now_boot r a (jobs_for Read text))
    (λ t. opened_of me now_boot r a last (jobs_for Read text)
    (eqb-true r last (and_parts (r == last) (is_above a old && (not (is_open now) && not (is_unended now))) t).0))
opens_of on me now_boot last now old (ToStage r text) = tt
opens_of on me now_boot last now old (ToStart r) = tt
opens_of on me now_boot last now old (ToTrigger r act) = tt
opens_of on me now_boot last now old (ToMark r j) = tt
opens_of on me now_boot last now old (ToStop r) = tt
opens_of on me now_boot last now old (ToHold a state) = tt
opens_of on me now_boot last now old (ToPassFully a j) = tt
opens_of on me now_boot last now old (ToIssue j) = tt
opens_of on me now_boot last now old (ToEnd ticket end) = tt
opens_of on me now_boot last now old (ToReport b a j report) = tt
opens_of on me now_boot last now old ToNobody = tt

goes_on_of : (me now_boot last : ℕ) (x : Request) (new old : Option Check) → Of me now_boot last new → Of me now_boot last old
    → Of me now_boot last (or_opened new (check_goes_on x old))
goes_on_of me now_boot last x (Some c) old n h = n
goes_on_of me now_boot last x None None n h = tt
goes_on_of me now_boot last x None (Some c) n h = record { server = h.server; boot_is = h.boot_is; run = h.run }

after_of : (me now_boot last : ℕ) (left : SaveOutcome) (d : Option Staged) (x : Request) (new old : Option Check) → Of me now_boot last new → Of me now_boot last old
    → Of me now_boot (last_run_after left d last) (check_after left d new x old)
after_of me now_boot last NoSave d x new old n h =
    subst (λ l. Of me now_boot l (or_opened new (check_goes_on x old))) (sym (unsaved d last)) (goes_on_of me now_boot last x new old n h)
after_of me now_boot last Saved None x new old n h = goes_on_of me now_boot last x new old n h
after_of me now_boot last Saved (Some s) x new old n h = tt
after_of me now_boot last LostNew d x new old n h = tt
after_of me now_boot last LostOld d x new old n h = tt

pub check_of : (o : Opening) (past : List Entry) → Of o.me (boot o past) (last_run o past) (check o past)
check_of o [] = tt
check_of o (Met e left ∷ past) =
    after_of o.me (boot o past) (last_run o past) left (due o past e) (request_of o.me e)
    (opens (is_on past) o.me (boot o past) (last_run o past) (work o past) (check o past) (request_of o.me e)) (check o past)
    (opens_of (is_on past) o.me (boot o past) (last_run o past) (work o past) (check o past) (request_of o.me e)) (check_of o past)
check_of o (Cut ∷ past) = tt
check_of o (Restart left ∷ past) = tt

-- A state that came, and fits.
pub record Came (c : Check) (j : ℕ) (job : Job) (since : List Request) (s : State) : Type 0 where
  pub attempt : ℕ
  pub came : Contains since (ToHold attempt s)
  pub fits : misfit s (record { run = c.run; server = c.server; job = j }) job.rec ≡ None

later : (c : Check) (j : ℕ) (job : Job) (x : Request) (since : List Request) (s : State) → Came c j job since s → Came c j job (x ∷ since) s
later c j job x since s k = record { attempt = k.attempt; came = Contains-append_right (x ∷ []) since (ToHold k.attempt s) k.came; fits = k.fits }

held_cases : (m : Option Fault) (state s : State) (p : Progress) → progress_with_state m state p ≡ With s → (p ≡ With s) ⊎ ((m ≡ None) × (state ≡ s))
held_cases None state s Wanting h = inr (refl, cc)
held_cases (Some fault) state s Wanting h = cc
held_cases m state s Full h = cc
held_cases m state s (With t) h = inl h
held_cases m state s (Refused value) h = cc
held_cases m state s (Done report) h = cc

passed_with : (s : State) (p : Progress) → progress_without_state p ≡ With s → p ≡ With s
passed_with s Wanting h = cc
passed_with s Full h = cc
passed_with s (With t) h = h
passed_with s (Refused value) h = cc
passed_with s (Done report) h = cc

reported_with : (r : _) (s : State) (p : Progress) → progress_with_report r p ≡ With s → p ≡ With s
reported_with r s Wanting h = cc
reported_with r s Full h = cc
reported_with r s (With t) h = cc
reported_with r s (Refused value) h = cc
reported_with r s (Done report) h = cc

either : (t : Bool) (new old : Progress) (s : State) → (new ≡ With s → old ≡ With s) → (if t then new else old) ≡ With s → old ≡ With s
either true new old s f h = f h
either false new old s f h = h

hold_cases : (t : Bool) (m : Option Fault) (state s : State) (p : Progress) → (if t then progress_with_state m state p else p) ≡ With s
    → (p ≡ With s) ⊎ ((m ≡ None) × (state ≡ s))
hold_cases true m state s p h = held_cases m state s p h
hold_cases false m state s p h = inl h

here : (c : Check) (j : ℕ) (job : Job) (a : ℕ) (state : State) (since : List Request) (s : State)
    → misfit state (record { run = c.run; server = c.server; job = j }) job.rec ≡ None → state ≡ s → Came c j job (ToHold a state ∷ since) s
here c j job a state since s m e =
    subst (λ v. Came c j job (ToHold a state ∷ since) v) e
    (record { attempt = a; came = first_of (ToHold a state) since; fits = m })

step : (c : Check) (j : ℕ) (job : Job) (x : Request) (since : List Request) (p : Progress) (s : State) → (p ≡ With s → Came c j job since s)
    → progress_by c j job x p ≡ With s → Came c j job (x ∷ since) s
step c j job (ToHold a state) since p s f h =
    elim (hold_cases ((a == c.attempt) && (state.key.job == j)) (misfit state (record { run = c.run; server = c.server; job = j }) job.rec) state s p h) [
      | inl i ↦ later c j job (ToHold a state) since s (f i)
      | inr i ↦ here c j job a state since s i.0 i.1
    ]
step c j job (ToPassFully a i) since p s f h =
    later c j job (ToPassFully a i) since s (f (either ((a == c.attempt) && (i == j)) (progress_without_state p) p s (passed_with s p) h))
step c j job (ToReport b a i report) since p s f h = later c j job (ToReport b a i report) since s
    (f (either ((b == c.boot) && ((a == c.attempt) && (i == j))) (progress_with_report report p) p s (reported_with report s p) h))
step c j job (ToStage r text) since p s f h = later c j job (ToStage r text) since s (f h)
step c j job (ToStart r) since p s f h = later c j job (ToStart r) since s (f h)
step c j job (ToTrigger r act) since p s f h = later c j job (ToTrigger r act) since s (f h)
step c j job (ToMark r i) since p s f h = later c j job (ToMark r i) since s (f h)
step c j job (ToStop r) since p s f h = later c j job (ToStop r) since s (f h)
step c j job (ToVerify r a text) since p s f h = later c j job (ToVerify r a text) since s (f h)
step c j job (ToIssue i) since p s f h = later c j job (ToIssue i) since s (f h)
step c j job (ToEnd ticket end) since p s f h = later c j job (ToEnd ticket end) since s (f h)
step c j job ToNobody since p s f h = later c j job ToNobody since s (f h)

not_begun : (load : Bool) (s : State) → progress_at_first load ≡ With s → ⊥
not_begun true s h = cc
not_begun false s h = cc

pub with_came : (c : Check) (j : ℕ) (job : Job) (since : List Request) (s : State) → progress_after c j job since ≡ With s → Came c j job since s
with_came c j job [] s h = absurd (not_begun job.load s h)
with_came c j job (x ∷ since) s h = step c j job x since (progress_after c j job since) s (with_came c j job since s) h

key_test : (a b e : Bool) → (if not a then Some OtherKey else (if not b then Some OtherJob else (if not e then Some OtherPlace else None))) ≡ None → a ≡ true
key_test true b e h = refl
key_test false b e h = cc

pub key_fits : (s : State) (key : Key) (job : JobParts) → misfit s key job ≡ None → s.key ≡ key
unfolding misfit
key_fits s key job h = same_key s.key key (key_test (is_same_key s.key key) (is_of_job s job) (bytes_eq s.place (place job s.issued)) h)

-- What a job of the open check shows that is made with a state.
pub record IsWith (o : Opening) (past : List Entry) (j : ℕ) (s : State) : Type 0 where
  pub c : Check
  pub job : Job
  pub is_open_check : check o past ≡ Some c
  pub is_job : slice_get c.jobs j ≡ Some job
  pub came : Came c j job c.since s
  pub key : s.key ≡ record { run = last_run o past; server = o.me; job = j }

some_same : (p : Progress) (s : State) → Some p ≡ Some (With s) → p ≡ With s
some_same p s h = cc

with_at : (o : Opening) (past : List Entry) (j : ℕ) (s : State) (c : Check) (found : Option Job) → check o past ≡ Some c → slice_get c.jobs j ≡ found
    → IsOf o.me (boot o past) (last_run o past) c
    → progress_at c j found ≡ Some (With s) → IsWith o past j s
with_at o past j s c None is e of h = cc
with_at o past j s c (Some job) is e of h =
    let came = with_came c j job c.since s (some_same (progress_after c j job c.since) s h) in
    let key = key_fits s (record { run = c.run; server = c.server; job = j }) job.rec came.fits in
    record {
      c = c;
      job = job;
      is_open_check = is;
      is_job = e;
      came = came;
      key = subst (λ n. s.key ≡ record { run = n; server = o.me; job = j }) of.run
          (subst (λ m. s.key ≡ record { run = c.run; server = m; job = j }) of.server key);
    }

with_in : (o : Opening) (past : List Entry) (j : ℕ) (s : State) (found : Option Check) → check o past ≡ found → Of o.me (boot o past) (last_run o past) found
    → progress_in found j ≡ Some (With s) → IsWith o past j s
with_in o past j s None is of h = cc
with_in o past j s (Some c) is of h = with_at o past j s c (slice_get c.jobs j) is refl of h

pub with_state : (o : Opening) (past : List Entry) (j : ℕ) (s : State) → progress o past j ≡ Some (With s) → IsWith o past j s
with_state o past j s h = with_in o past j s (check o past) refl (check_of o past) h
