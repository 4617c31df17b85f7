-- The jobs of the run at work came in a text.
use Rattle.std.proofs.Common.{◌≡◌, refl, sym, ap, subst, ◌⊎◌, inl, inr, ℕ, Bool, true, false, ◌&&◌, List, [], ◌∷◌, Option, Some, None, Result, Ok, Err}
use Rattle.std.specs.Prelude.{if◌then◌else◌, not, nat_lt, Contains}
use Rattle.fc_base.proofs.ListLemmas.{none_in, first_of, behind_one, first_or_behind}
use Rattle.job_file.specs.declared.job.Job.{Job}
use Rattle.job_file.specs.declared.job.Phase.TheVariants.{Write}
use Rattle.disk_model.specs.declared.save_outcome.SaveOutcome.{SaveOutcome}
use Rattle.disk_model.specs.declared.save_outcome.SaveOutcome.TheVariants.{NoSave, Saved, LostNew, LostOld}
use Rattle.disk_model.specs.SaveOutcome.{is_lost}
use Rattle.server_core.specs.History.{Opening, Entry, Met, Cut, Restart}
use Rattle.server_core.specs.Request.{Request, ToStage, ToStart, ToTrigger, ToMark, ToStop, ToVerify, ToHold, ToPassFully, ToIssue, ToEnd, ToReport, ToNobody, request_of}
use Rattle.server_core.specs.Texts.{jobs_for}
use Rattle.server_core.specs.Run.{Work, is_open, goes_on}
use Rattle.server_core.specs.Words.{Staged, staged_by, stages, staged_after, greater, greatest, is_on, boot, last_run, stagings, work_after, work, due}
use Rattle.server_core.specs.DueStart.{DueIsStart}
use Rattle.seen.proofs.CheckLemmas.{Came, came_more, came_now}

-- The jobs of a run came in a text.
pub record HasText (o : Opening) (list : List Entry) (run : ℕ) (jobs : List Job) : Type 0 where
  pub text : List ℕ
  pub came : Came o list (ToStage run text)
  pub is : jobs_for Write text ≡ Ok jobs

text_more : (o : Opening) (e : Entry) (list : List Entry) (run : ℕ) (jobs : List Job) → HasText o list run jobs → HasText o (e ∷ list) run jobs
text_more o e list run jobs h = record { text = h.text; came = came_more o e list (ToStage run h.text) h.came; is = h.is }

-- What a request stages.
record Stages (x : Request) (s : Staged) : Type 0 where
  pub text : List ℕ
  pub asks : x ≡ ToStage s.run text
  pub jobs : jobs_for Write text ≡ Ok s.jobs

same_staged : (a b : Staged) → Some a ≡ Some b → a ≡ b
same_staged a b h = cc

staged_is : (r : ℕ) (text : List ℕ) (t : Result (List Job) ℕ) (s : Staged) → jobs_for Write text ≡ t → staged_by r t ≡ Some s → Stages (ToStage r text) s
staged_is r text (Ok js) s is h =
    subst (Stages (ToStage r text)) (same_staged (record { run = r; jobs = js }) s h) (record { text = text; asks = refl; jobs = is })
staged_is r text (Err value) s is h = absurd cc

stages_if : (b : Bool) (r : ℕ) (text : List ℕ) (s : Staged) → (if b then staged_by r (jobs_for Write text) else None) ≡ Some s → Stages (ToStage r text) s
stages_if true r text s h = staged_is r text (jobs_for Write text) s refl h
stages_if false r text s h = absurd cc

stages_so : (on : Bool) (last : ℕ) (w : Option Work) (x : Request) (s : Staged) → stages on last w x ≡ Some s → Stages x s
stages_so on last w (ToStage r text) s h = stages_if (on && (nat_lt last r && not (is_open w))) r text s h
stages_so on last w (ToStart r) s h = absurd cc
stages_so on last w (ToTrigger r act) s h = absurd cc
stages_so on last w (ToMark r j) s h = absurd cc
stages_so on last w (ToStop r) s h = absurd cc
stages_so on last w (ToVerify r a text) s h = absurd cc
stages_so on last w (ToHold a state) s h = absurd cc
stages_so on last w (ToPassFully a j) s h = absurd cc
stages_so on last w (ToIssue j) s h = absurd cc
stages_so on last w (ToEnd ticket end) s h = absurd cc
stages_so on last w (ToReport b a j report) s h = absurd cc
stages_so on last w ToNobody s h = absurd cc

one_staged : (s : Staged) (new : Option Staged) (older : List Staged) (left : SaveOutcome) → Contains (staged_after left new older) s
    → (is_lost left ≡ false) × ((new ≡ Some s) ⊎ Contains older s)
one_staged s None older NoSave h = (refl, inr h)
one_staged s (Some t) older NoSave h = (refl, elim (first_or_behind t older s h) [ inl e ↦ inl (ap Some e) | inr i ↦ inr i ])
one_staged s None older Saved h = (refl, inr h)
one_staged s (Some t) older Saved h = (refl, elim (first_or_behind t older s h) [ inl e ↦ inl (ap Some e) | inr i ↦ inr i ])
one_staged s new older LostNew h = absurd (none_in s h)
one_staged s new older LostOld h = absurd (none_in s h)

staged_text : (o : Opening) (list : List Entry) (s : Staged) → Contains (stagings o list) s → HasText o list s.run s.jobs
staged_text o [] s h = absurd (none_in s h)
staged_text o (Met e left ∷ past) s h =
    let new = stages (is_on past) (last_run o past) (work o past) (request_of o.me e) in
    let k = one_staged s new (stagings o past) left h in
    elim k.1 [
      | inl now ↦ let t = stages_so (is_on past) (last_run o past) (work o past) (request_of o.me e) s now in
          record { text = t.text; came = came_now o e left past (ToStage s.run t.text) k.0 t.asks; is = t.jobs }
      | inr before ↦ text_more o (Met e left) past s.run s.jobs (staged_text o past s before)
    ]
staged_text o (Cut ∷ past) s h = absurd (none_in s h)
staged_text o (Restart left ∷ past) s h = absurd (none_in s h)

greater_is : (last : ℕ) (s : Staged) (x : Option Staged) (g : Staged) → greater last s x ≡ Some g → (s ≡ g) ⊎ (x ≡ Some g)
greater_is last s None g h = by (nat_lt last s.run) h
  where
    by : (b : Bool) → (if b then Some s else None) ≡ Some g → (s ≡ g) ⊎ (None ≡ Some g)
    by true k = inl (same_staged s g k)
    by false k = absurd cc
greater_is last s (Some older) g h = by (nat_lt older.run s.run) h
  where
    by : (b : Bool) → (if b then Some s else Some older) ≡ Some g → (s ≡ g) ⊎ (Some older ≡ Some g)
    by true k = inl (same_staged s g k)
    by false k = inr k

greatest_in : (last : ℕ) (xs : List Staged) (g : Staged) → greatest last xs ≡ Some g → Contains xs g
greatest_in last [] g h = absurd cc
greatest_in last (s ∷ older) g h = elim (greater_is last s (greatest last older) g h) [
  | inl e ↦ subst (Contains (s ∷ older)) e (first_of s older)
  | inr k ↦ behind_one s older g (greatest_in last older g k)
]

-- What a run at work rests on.
record WorksBy (w : Work) (x : Request) (d : Option Staged) (older : Option Work) : Type 0 where
  pub by : ((s : Staged) × (d ≡ Some s) × (w.run ≡ s.run) × (w.jobs ≡ s.jobs)) ⊎ ((v : Work) × (older ≡ Some v) × (w.run ≡ v.run) × (w.jobs ≡ v.jobs))

on_is : (x : Request) (older : Option Work) (w : Work) → goes_on x older ≡ Some w → (v : Work) × (older ≡ Some v) × (w.run ≡ v.run) × (w.jobs ≡ v.jobs)
on_is x None w h = absurd cc
on_is x (Some v) w h =
    let same : record v { since = x ∷ v.since } ≡ w = cc in
    (v, refl, ap (λ (u : Work). u.run) (sym same), ap (λ (u : Work). u.jobs) (sym same))

works_by : (left : SaveOutcome) (d : Option Staged) (me now_boot : ℕ) (x : Request) (older : Option Work) (w : Work) → work_after left d me now_boot x older ≡ Some w
    → WorksBy w x d older
works_by NoSave d me now_boot x older w h = record { by = inr (on_is x older w h) }
works_by Saved None me now_boot x older w h = record { by = inr (on_is x older w h) }
works_by Saved (Some s) me now_boot x older w h =
    let same : record { server = me; boot = now_boot; run = s.run; jobs = s.jobs; since = [] } ≡ w = made (record { server = me; boot = now_boot; run = s.run; jobs = s.jobs; since = [] }) w h in
    record { by = inl (s, refl, ap (λ (u : Work). u.run) (sym same), ap (λ (u : Work). u.jobs) (sym same)) }
  where
    made : (a b : Work) → Some a ≡ Some b → a ≡ b
    made a b k = cc
works_by LostNew d me now_boot x older w h = absurd cc
works_by LostOld d me now_boot x older w h = absurd cc

make_text : (o : Opening) (list : List Entry) (r q : ℕ) (js ks : List Job) → r ≡ q → js ≡ ks → HasText o list q ks → HasText o list r js
make_text o list r q js ks a b h = subst (λ n. HasText o list n js) (sym a) (subst (HasText o list q) (sym b) h)

-- The jobs of the run at work came in a text.
pub work_has_text : DueIsStart → (o : Opening) (list : List Entry) (w : Work) → work o list ≡ Some w → HasText o list w.run w.jobs
work_has_text law o [] w h = absurd cc
work_has_text law o (Met e left ∷ past) w h =
    let k = works_by left (due o past e) o.me (boot o past) (request_of o.me e) (work o past) w h in
    elim k.by [
      | inl s ↦ let d = law o past e s.0 s.1 in
          make_text o (Met e left ∷ past) w.run s.0.run w.jobs s.0.jobs s.2 s.3
          (text_more o (Met e left) past s.0.run s.0.jobs (staged_text o past s.0 (greatest_in (last_run o past) (stagings o past) s.0 d.staged_is)))
      | inr v ↦ make_text o (Met e left ∷ past) w.run v.0.run w.jobs v.0.jobs v.2 v.3
          (text_more o (Met e left) past v.0.run v.0.jobs (work_has_text law o past v.0 v.1))
    ]
work_has_text law o (Cut ∷ past) w h = absurd cc
work_has_text law o (Restart left ∷ past) w h = absurd cc
