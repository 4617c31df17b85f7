-- What a deed leaves of what is kept of the runs and attempts that it isn't about.
use Rattle.std.proofs.Common.{◌≡◌, refl, sym, ◌∙◌, subst, ℕ, Bool, true, false, ◌==◌, ◌&&◌, List, ◌∷◌, Option, None, Some}
use Rattle.std.specs.Prelude.{if◌then◌else◌}
use Rattle.fc_base.specs.declared.report.ReportParts.{ReportParts}
use Rattle.messages.specs.declared.body.Body.{Body}
use Rattle.messages.specs.declared.body.Body.TheVariants as bodies
use Rattle.messages.specs.declared.refusal.Act.{Act}
use Rattle.client_core.specs.declared.attempt_asked.AttemptAsked.{AttemptAsked}
use Rattle.client_core.specs.declared.beginning.Beginning.{Beginning}
use Rattle.client_core.specs.declared.run_asked.RunAsked.{RunAsked}
use Rattle.client_core.specs.Begins.{begin_at, begin_heard}
use Rattle.client_core.specs.Life.{Deed, Begins, Triggers, Stops, Verifies, Hears, text_of, act_of, run_of, check_of}
use Rattle.client_core.specs.Lives.{RunFor, AttemptFor}
use Rattle.client_core.specs.Requests.{Request, trigger_at, stop_at, verify_at, trigger_heard, stop_heard, verify_heard}
use Rattle.client_core.specs.RequestStatus.{IsRequestKept}
use Rattle.client_core.specs.Told.{run_told, attempt_told}

-- The deed leaves all that is said of a run.
pub record SameRun (run : ℕ) (deed : Deed) (deeds : List Deed) : Type 0 where
  pub text : text_of run (deed ∷ deeds) ≡ text_of run deeds
  pub act : act_of run (deed ∷ deeds) ≡ act_of run deeds
  pub begins : (s : ℕ) → begin_at run s (deed ∷ deeds) ≡ begin_at run s deeds
  pub triggers : (s : ℕ) → trigger_at run s (deed ∷ deeds) ≡ trigger_at run s deeds
  pub stops : (s : ℕ) → stop_at run s (deed ∷ deeds) ≡ stop_at run s deeds

pub run_stays : (run : ℕ) (deed : Deed) (deeds : List Deed) (x : Option RunAsked) → SameRun run deed deeds → RunFor run deeds x → RunFor run (deed ∷ deeds) x
run_stays run deed deeds None same h = record {
  text = same.text ∙ h.text;
  act = same.act ∙ h.act;
  begins = λ s. same.begins s ∙ h.begins s;
  triggers = λ s. same.triggers s ∙ h.triggers s;
  stops = λ s. same.stops s ∙ h.stops s;
}
run_stays run deed deeds (Some asked) same h = record {
  range = h.range;
  text = h.text ∙ sym same.text;
  act = h.act ∙ sym same.act;
  begins = λ s x e. h.begins s x e ∙ sym (same.begins s);
  triggers = λ s x e. subst (IsRequestKept x) (sym (same.triggers s)) (h.triggers s x e);
  stops = λ s x e. subst (IsRequestKept x) (sym (same.stops s)) (h.stops s x e);
}

-- The deed leaves all that is said of an attempt.
pub record SameAttempt (attempt : ℕ) (deed : Deed) (deeds : List Deed) : Type 0 where
  pub run : run_of attempt (deed ∷ deeds) ≡ run_of attempt deeds
  pub text : check_of attempt (deed ∷ deeds) ≡ check_of attempt deeds
  pub verifies : (s : ℕ) → verify_at attempt s (deed ∷ deeds) ≡ verify_at attempt s deeds

pub attempt_stays : (attempt : ℕ) (deed : Deed) (deeds : List Deed) (x : Option (Option AttemptAsked)) → SameAttempt attempt deed deeds
    → AttemptFor attempt deeds x → AttemptFor attempt (deed ∷ deeds) x
attempt_stays attempt deed deeds None same h = record {
  run = same.run ∙ h.run;
  text = same.text ∙ h.text;
  verifies = λ s. same.verifies s ∙ h.verifies s;
}
attempt_stays attempt deed deeds (Some None) same h = record {
  run = same.run ∙ h.run;
  text = same.text ∙ h.text;
  verifies = λ s. same.verifies s ∙ h.verifies s;
}
attempt_stays attempt deed deeds (Some (Some asked)) same h = record {
  number = h.number;
  range = h.range;
  run = h.run ∙ sym same.run;
  text = h.text ∙ sym same.text;
  verifies = λ s x e. subst (IsRequestKept x) (sym (same.verifies s)) (h.verifies s x e);
}

-- ---- what is asked of another run or attempt

if_false : {A : Type 0} (b : Bool) (x y : A) → b ≡ false → (if b then x else y) ≡ y
if_false true x y e = cc
if_false false x y e = refl

pub begins_other : (run r : ℕ) (text : List ℕ) (deeds : List Deed) → (r == run) ≡ false → SameRun run (Begins r text) deeds
begins_other run r text deeds n = record {
  text = if_false _ _ _ n;
  act = refl;
  begins = λ s. if_false _ _ _ n;
  triggers = λ s. refl;
  stops = λ s. refl;
}

pub triggers_other : (run r : ℕ) (act : Act) (deeds : List Deed) → (r == run) ≡ false → SameRun run (Triggers r act) deeds
triggers_other run r act deeds n = record {
  text = refl;
  act = if_false _ _ _ n;
  begins = λ s. refl;
  triggers = λ s. if_false _ _ _ n;
  stops = λ s. refl;
}

pub stops_other : (run r : ℕ) (deeds : List Deed) → (r == run) ≡ false → SameRun run (Stops r) deeds
stops_other run r deeds n = record {
  text = refl;
  act = refl;
  begins = λ s. refl;
  triggers = λ s. refl;
  stops = λ s. if_false _ _ _ n;
}

pub verifies_no_run : (run r a : ℕ) (text : List ℕ) (deeds : List Deed) → SameRun run (Verifies r a text) deeds
verifies_no_run run r a text deeds = record {
  text = refl;
  act = refl;
  begins = λ s. refl;
  triggers = λ s. refl;
  stops = λ s. refl;
}

pub begins_no_attempt : (attempt r : ℕ) (text : List ℕ) (deeds : List Deed) → SameAttempt attempt (Begins r text) deeds
begins_no_attempt attempt r text deeds = record { run = refl; text = refl; verifies = λ s. refl }

pub triggers_no_attempt : (attempt r : ℕ) (act : Act) (deeds : List Deed) → SameAttempt attempt (Triggers r act) deeds
triggers_no_attempt attempt r act deeds = record { run = refl; text = refl; verifies = λ s. refl }

pub stops_no_attempt : (attempt r : ℕ) (deeds : List Deed) → SameAttempt attempt (Stops r) deeds
stops_no_attempt attempt r deeds = record { run = refl; text = refl; verifies = λ s. refl }

pub verifies_other : (attempt r a : ℕ) (text : List ℕ) (deeds : List Deed) → (a == attempt) ≡ false → SameAttempt attempt (Verifies r a text) deeds
verifies_other attempt r a text deeds n = record {
  run = if_false _ _ _ n;
  text = if_false _ _ _ n;
  verifies = λ s. if_false _ _ _ n;
}

-- ---- what a server says of another run or attempt

begin_other : (run : ℕ) (body : Body) (b : Beginning) → (run_told body == run) ≡ false → begin_heard run body b ≡ b
begin_other run (bodies.JobsOk r jobs) b n = if_false _ _ _ n
begin_other run (bodies.Started r) b n = if_false _ _ _ n
begin_other run (bodies.Refused r) b n = if_false _ _ _ n
begin_other run _ b n = refl

trigger_other : (run : ℕ) (body : Body) (q : Request) → (run_told body == run) ≡ false → trigger_heard run body q ≡ q
trigger_other run (bodies.State jobs state) q n = if_false _ _ _ n
trigger_other run (bodies.NoState r job jobs) q n = if_false _ _ _ n
trigger_other run (bodies.Refused r) q n = if_false _ _ _ n
trigger_other run _ q n = refl

stop_other : (run : ℕ) (body : Body) (q : Request) → (run_told body == run) ≡ false → stop_heard run body q ≡ q
stop_other run (bodies.Stopped r) q n = if_false _ _ _ n
stop_other run (bodies.Refused r) q n = if_false _ _ _ n
stop_other run _ q n = refl

if_same : {A : Type 0} (b : Bool) (x y : A) → x ≡ y → (if b then x else y) ≡ y
if_same true x y e = e
if_same false x y e = refl

pub hears_other : (run server : ℕ) (body : Body) (deeds : List Deed) → (run_told body == run) ≡ false → SameRun run (Hears server body) deeds
hears_other run server body deeds n = record {
  text = refl;
  act = refl;
  begins = λ s. if_same _ _ _ (begin_other run body (begin_at run s deeds) n);
  triggers = λ s. if_same _ _ _ (trigger_other run body (trigger_at run s deeds) n);
  stops = λ s. if_same _ _ _ (stop_other run body (stop_at run s deeds) n);
}

both_or : {A : Type 0} (a b : Bool) (x y : A) → b ≡ false → (if a && b then x else y) ≡ y
both_or true b x y e = if_false b x y e
both_or false b x y e = refl

verify_other : (run attempt : ℕ) (body : Body) (q : Request) → (attempt_told body == attempt) ≡ false → verify_heard run attempt body q ≡ q
verify_other run attempt (bodies.Report r a job jobs report) q n = both_or _ _ _ _ n
verify_other run attempt (bodies.Refused r) q n = both_or _ _ _ _ n
verify_other run attempt _ q n = refl

pub hears_other_attempt : (attempt server : ℕ) (body : Body) (deeds : List Deed) → (attempt_told body == attempt) ≡ false
    → SameAttempt attempt (Hears server body) deeds
hears_other_attempt attempt server body deeds n = record {
  run = refl;
  text = refl;
  verifies = λ s. if_same _ _ _ (verify_other (run_of attempt deeds) attempt body (verify_at attempt s deeds) n);
}

pub hears_report : (run server r a job jobs : ℕ) (report : ReportParts) (deeds : List Deed)
    → SameRun run (Hears server (bodies.Report r a job jobs report)) deeds
hears_report run server r a job jobs report deeds = record {
  text = refl;
  act = refl;
  begins = λ s. if_same _ _ _ refl;
  triggers = λ s. if_same _ _ _ refl;
  stops = λ s. if_same _ _ _ refl;
}
