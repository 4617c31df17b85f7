-- What a server's check and its run rest on: requests that came.
use Rattle.std.proofs.Common.{◌≡◌, refl, ap, subst, ◌⊎◌, inl, inr, ℕ, Bool, true, false, ◌&&◌, ◌==◌, List, [], ◌∷◌, ◌++◌, Option, Some, None, Result, Ok, Err}
use Rattle.std.specs.Prelude.{if◌then◌else◌, not, Contains}
use Rattle.fc_base.proofs.ListLemmas.{none_in, first_or_behind}
use Rattle.job_file.specs.declared.fault.JobFault.{JobFault}
use Rattle.job_file.specs.declared.job.Job.{Job}
use Rattle.job_file.specs.declared.job.Phase.{Phase}
use Rattle.job_file.specs.declared.job.Phase.TheVariants.{Read}
use Rattle.job_file.specs.JobSet.{jobs_of, phase_in, refusal_of}
use Rattle.disk_model.specs.declared.save_outcome.SaveOutcome.{SaveOutcome}
use Rattle.disk_model.specs.declared.save_outcome.SaveOutcome.TheVariants.{NoSave, Saved, LostNew, LostOld}
use Rattle.disk_model.specs.SaveOutcome.{is_lost}
use Rattle.server_core.specs.Inputs.{PacketInput}
use Rattle.server_core.specs.History.{Opening, Entry, Met, Cut, Restart}
use Rattle.server_core.specs.Request.{Request, ToStage, ToStart, ToTrigger, ToMark, ToStop, ToVerify, ToHold, ToPassFully, ToIssue, ToEnd, ToReport, ToNobody, request_of}
use Rattle.server_core.specs.Texts.{is_phase, jobs_by, jobs_for}
use Rattle.server_core.specs.Run.{Work, is_open, is_unended}
use Rattle.server_core.specs.Words.{Staged, is_on, boot, last_run, work, due}
use Rattle.server_core.specs.Check.{Check}
use Rattle.server_core.specs.Check.{is_above, new_check, opens, check_goes_on, or_opened, check_after, check}

-- ---- requests that came

-- A request that came to a server, whose save wasn't cut off.
pub record Came (o : Opening) (list : List Entry) (x : Request) : Type 0 where
  pub newer : List Entry
  pub event : PacketInput
  pub left : SaveOutcome
  pub older : List Entry
  pub split : list ≡ newer ++ Met event left ∷ older
  pub request : request_of o.me event ≡ x
  pub kept : is_lost left ≡ false

pub came_more : (o : Opening) (e : Entry) (list : List Entry) (x : Request) → Came o list x → Came o (e ∷ list) x
came_more o e list x c =
    record { newer = e ∷ c.newer; event = c.event; left = c.left; older = c.older; split = ap (λ l. e ∷ l) c.split; request = c.request; kept = c.kept }

pub came_now : (o : Opening) (e : PacketInput) (left : SaveOutcome) (list : List Entry) (x : Request) → is_lost left ≡ false → request_of o.me e ≡ x → Came o (Met e left ∷ list) x
came_now o e left list x kept is = record { newer = []; event = e; left = left; older = list; split = refl; request = is; kept = kept }

-- ---- the jobs of a text

jobs_are : (fault : Option JobFault) (b : Bool) (jobs found : List Job) → jobs_by fault b jobs ≡ Ok found → jobs ≡ found
jobs_are None true jobs found h = cc
jobs_are None false jobs found h = absurd cc
jobs_are (Some fault) b jobs found h = absurd cc

-- The jobs that a text gives to a phase are those of the text.
pub text_has : (phase : Phase) (text : List ℕ) (jobs : List Job) → jobs_for phase text ≡ Ok jobs → jobs_of text ≡ jobs
unfolding jobs_for
text_has phase text jobs h = jobs_are (refusal_of text) (is_phase phase (phase_in text)) (jobs_of text) jobs h

-- ---- the open check

-- A check that a request opens.
record Opens (x : Request) (c : Check) : Type 0 where
  pub text : List ℕ
  pub asks : x ≡ ToVerify c.run c.attempt text
  pub jobs : jobs_for Read text ≡ Ok c.jobs
  pub none : c.since ≡ []

same_check : (a b : Check) → Some a ≡ Some b → a ≡ b
same_check a b h = cc

new_is : (me now_boot r a : ℕ) (text : List ℕ) (t : Result (List Job) ℕ) (c : Check) → jobs_for Read text ≡ t → new_check me now_boot r a t ≡ Some c
    → Opens (ToVerify r a text) c
new_is me now_boot r a text (Ok js) c is h =
    let same = same_check (record { server = me; boot = now_boot; run = r; attempt = a; jobs = js; since = [] }) c h in
    subst (Opens (ToVerify r a text)) same (record { text = text; asks = refl; jobs = is; none = refl })
new_is me now_boot r a text (Err value) c is h = absurd cc

opens_if : (b : Bool) (me now_boot r a : ℕ) (text : List ℕ) (c : Check) → (if b then new_check me now_boot r a (jobs_for Read text) else None) ≡ Some c
    → Opens (ToVerify r a text) c
opens_if true me now_boot r a text c h = new_is me now_boot r a text (jobs_for Read text) c refl h
opens_if false me now_boot r a text c h = absurd cc

opened : (on : Bool) (me now_boot last : ℕ) (w : Option Work) (older : Option Check) (x : Request) (c : Check) → opens on me now_boot last w older x ≡ Some c
    → Opens x c
opened on me now_boot last w older (ToVerify r a text) c h =
    opens_if (on && ((r == last) && (is_above a older && (not (is_open w) && not (is_unended w))))) me now_boot r a text c h
opened on me now_boot last w older (ToStage r text) c h = absurd cc
opened on me now_boot last w older (ToStart r) c h = absurd cc
opened on me now_boot last w older (ToTrigger r act) c h = absurd cc
opened on me now_boot last w older (ToMark r j) c h = absurd cc
opened on me now_boot last w older (ToStop r) c h = absurd cc
opened on me now_boot last w older (ToHold a state) c h = absurd cc
opened on me now_boot last w older (ToPassFully a j) c h = absurd cc
opened on me now_boot last w older (ToIssue j) c h = absurd cc
opened on me now_boot last w older (ToEnd ticket end) c h = absurd cc
opened on me now_boot last w older (ToReport b a j report) c h = absurd cc
opened on me now_boot last w older ToNobody c h = absurd cc

-- A check that goes on with a request.
record GoesOn (older : Option Check) (x : Request) (c : Check) : Type 0 where
  pub was : Check
  pub is : older ≡ Some was
  pub now : record was { since = x ∷ was.since } ≡ c

goes_so : (older : Option Check) (x : Request) (c : Check) → check_goes_on x older ≡ Some c → GoesOn older x c
goes_so None x c h = absurd cc
goes_so (Some b) x c h = record { was = b; is = refl; now = same_check (record b { since = x ∷ b.since }) c h }

new_or_on : (new older : Option Check) (x : Request) (c : Check) → or_opened new (check_goes_on x older) ≡ Some c → (new ≡ Some c) ⊎ GoesOn older x c
new_or_on None older x c h = inr (goes_so older x c h)
new_or_on (Some n) older x c h = inl h

behind : (left : SaveOutcome) (d : Option Staged) (new older : Option Check) (x : Request) (c : Check) → check_after left d new x older ≡ Some c
    → (is_lost left ≡ false) × ((new ≡ Some c) ⊎ GoesOn older x c)
behind NoSave d new older x c h = (refl, new_or_on new older x c h)
behind Saved None new older x c h = (refl, new_or_on new older x c h)
behind Saved (Some s) new older x c h = absurd cc
behind LostNew d new older x c h = absurd cc
behind LostOld d new older x c h = absurd cc

-- What an open check rests on: the Verify that opened it, and what was asked since.
pub record Rests (o : Opening) (list : List Entry) (c : Check) : Type 0 where
  pub text : List ℕ
  pub asked : Came o list (ToVerify c.run c.attempt text)
  pub jobs : jobs_for Read text ≡ Ok c.jobs
  pub since : (x : Request) → Contains c.since x → Came o list x

rests_now : (o : Opening) (e : PacketInput) (left : SaveOutcome) (list : List Entry) (c : Check) → is_lost left ≡ false → Opens (request_of o.me e) c
    → Rests o (Met e left ∷ list) c
rests_now o e left list c kept k =
    record {
      text = k.text;
      asked = came_now o e left list (ToVerify c.run c.attempt k.text) kept k.asks;
      jobs = k.jobs;
      since = λ x h. absurd (none_in x (subst (λ l. Contains l x) k.none h));
    }

rests_on : (o : Opening) (e : PacketInput) (left : SaveOutcome) (list : List Entry) (b : Check) → is_lost left ≡ false → Rests o list b
    → Rests o (Met e left ∷ list) (record b { since = request_of o.me e ∷ b.since })
rests_on o e left list b kept k =
    record {
      text = k.text;
      asked = came_more o (Met e left) list (ToVerify b.run b.attempt k.text) k.asked;
      jobs = k.jobs;
      since = λ x h. elim (first_or_behind (request_of o.me e) b.since x h) [
        | inl here ↦ came_now o e left list x kept here
        | inr there ↦ came_more o (Met e left) list x (k.since x there)
      ];
    }

pub check_rests : (o : Opening) (list : List Entry) (c : Check) → check o list ≡ Some c → Rests o list c
check_rests o [] c h = absurd cc
check_rests o (Met e left ∷ past) c h =
    let new = opens (is_on past) o.me (boot o past) (last_run o past) (work o past) (check o past) (request_of o.me e) in
    let k = behind left (due o past e) new (check o past) (request_of o.me e) c h in
    elim k.1 [
      | inl opens_it ↦ rests_now o e left past c k.0
          (opened (is_on past) o.me (boot o past) (last_run o past) (work o past) (check o past) (request_of o.me e) c opens_it)
      | inr goes ↦ subst (Rests o (Met e left ∷ past)) goes.now (rests_on o e left past goes.was k.0 (check_rests o past goes.was goes.is))
    ]
check_rests o (Cut ∷ past) c h = absurd cc
check_rests o (Restart left ∷ past) c h = absurd cc
