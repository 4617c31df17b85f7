-- A cut that a server asks for was ordered, by a Trigger of the run that came to it.
use Rattle.std.proofs.Common.{◌≡◌, refl, subst, ◌⊎◌, inl, inr, ℕ, Bool, true, false, ◌==◌, List, [], ◌∷◌, Option, Some, None}
use Rattle.std.specs.Prelude.{if◌then◌else◌, ◌≤◌, Contains}
use Rattle.std.specs.Option.{option_or}
use Rattle.std.proofs.lemmas.Bool.{eqb-true}
use Rattle.fc_base.specs.declared.limits.TheConstants.{MAX_SERVERS}
use Rattle.fc_base.proofs.ListLemmas.{none_in, first_of, first_or_behind, behind_one}
use Rattle.disk_model.specs.declared.save_outcome.SaveOutcome.{SaveOutcome}
use Rattle.disk_model.specs.declared.save_outcome.SaveOutcome.TheVariants.{NoSave, Saved, LostNew, LostOld}
use Rattle.disk_model.specs.SaveOutcome.{is_lost}
use Rattle.messages.specs.declared.refusal.Act.{Act}
use Rattle.messages.specs.declared.refusal.Act.TheVariants as acts
use Rattle.messages.specs.declared.body.Body.TheVariants as bodies
use Rattle.server_core.specs.Inputs.{PacketInput}
use Rattle.server_core.specs.History.{Opening, Entry, Met, Cut, Restart}
use Rattle.server_core.specs.Request.{Request, ToStage, ToStart, ToTrigger, ToMark, ToStop, ToVerify}
use Rattle.server_core.specs.Request.{ToHold, ToPassFully, ToIssue, ToEnd, ToReport, ToNobody, request_of}
use Rattle.server_core.specs.Run.{Work, Halt, Triggered, Stopped, halt_by, halt_of, goes_on}
use Rattle.server_core.specs.Words.{Staged, boot, work, work_after, due}
use Rattle.server_core.specs.Answers.{wants_cut, is_cut_act}
use Rattle.net_world.specs.Setup.{Setup}
use Rattle.net_world.specs.Happenings.{Happening}
use Rattle.net_world.specs.Trace.{opening_of}
use Rattle.net_world.proofs.TagLemmas.{Long, OfJobs, OfVerify}
use Rattle.seen.specs.Sightings.{to_server}
use Rattle.seen.specs.Reports.{HasCome}
use Rattle.seen.specs.Watching.{observations}
use Rattle.seen.proofs.PlaceLemmas.{list_at}
use Rattle.seen.proofs.CheckLemmas.{Came, came_more, came_now}
use Rattle.seen.proofs.CameLemmas.{came_in, has_come}
use Rattle.seen.proofs.ServerLemmas.{asks_trigger}
use Rattle.seen.proofs.QuietLemmas.{TakingLaws}

-- ---- what was asked of a run came

-- All that was asked of the run at work came.
abbrev AllCame : Opening → List Entry → Option Work → Type 0
AllCame o list None = Unit {0}
AllCame o list (Some w) = (x : Request) → Contains w.since x → Came o list x

on_came : (o : Opening) (e : PacketInput) (left : SaveOutcome) (past : List Entry) (w : Option Work) → is_lost left ≡ false → AllCame o past w
    → AllCame o (Met e left ∷ past) (goes_on (request_of o.me e) w)
on_came o e left past None kept f = tt
on_came o e left past (Some w) kept f = λ x h. elim (first_or_behind (request_of o.me e) w.since x h) [
  | inl here ↦ came_now o e left past x kept here
  | inr there ↦ came_more o (Met e left) past x (f x there)
]

after_came : (o : Opening) (b : ℕ) (e : PacketInput) (left : SaveOutcome) (d : Option Staged) (past : List Entry) (w : Option Work) → AllCame o past w
    → AllCame o (Met e left ∷ past) (work_after left d o.me b (request_of o.me e) w)
after_came o b e NoSave d past w f = on_came o e NoSave past w refl f
after_came o b e Saved None past w f = on_came o e Saved past w refl f
after_came o b e Saved (Some s) past w f = λ x h. absurd (none_in x h)
after_came o b e LostNew d past w f = tt
after_came o b e LostOld d past w f = tt

all_came : (o : Opening) (past : List Entry) → AllCame o past (work o past)
all_came o [] = tt
all_came o (Met e left ∷ past) = after_came o (boot o past) e left (due o past e) past (work o past) (all_came o past)
all_came o (Cut ∷ past) = tt
all_came o (Restart left ∷ past) = tt

-- ---- a run that wants the cut was told so

cut_act : (a : Act) → is_cut_act a ≡ true → a ≡ acts.Cut
cut_act acts.None h = absurd cc
cut_act acts.Cut h = refl

told_if : (b : Bool) (r run : ℕ) (a : Act) (before : List Request) → (r == run) ≡ b
    → wants_cut (if b then Some (Triggered a before) else None) ≡ true → ToTrigger r a ≡ ToTrigger run acts.Cut
told_if true r run a before is h = let same = eqb-true r run is in let act = cut_act a h in rw (same, act) refl
told_if false r run a before is h = absurd cc

stopped_if : (b : Bool) → wants_cut (if b then Some Stopped else None) ≡ true → ⊥
stopped_if true h = absurd cc
stopped_if false h = absurd cc

told_by : (run : ℕ) (x : Request) (before : List Request) → wants_cut (halt_by run x before) ≡ true → x ≡ ToTrigger run acts.Cut
told_by run (ToTrigger r a) before h = told_if (r == run) r run a before refl h
told_by run (ToStop r) before h = absurd (stopped_if (r == run) h)
told_by run (ToStage r text) before h = absurd cc
told_by run (ToStart r) before h = absurd cc
told_by run (ToMark r j) before h = absurd cc
told_by run (ToVerify r a text) before h = absurd cc
told_by run (ToHold a state) before h = absurd cc
told_by run (ToPassFully a j) before h = absurd cc
told_by run (ToIssue j) before h = absurd cc
told_by run (ToEnd ticket end) before h = absurd cc
told_by run (ToReport b a j report) before h = absurd cc
told_by run ToNobody before h = absurd cc

or_here : (x y : Option Halt) → wants_cut (option_or x y) ≡ true → (wants_cut x ≡ true) ⊎ (wants_cut y ≡ true)
or_here None y h = inr h
or_here (Some z) y h = inl h

ordered_in : (run : ℕ) (since : List Request) → wants_cut (halt_of run since) ≡ true → Contains since (ToTrigger run acts.Cut)
ordered_in run [] h = absurd cc
ordered_in run (x ∷ since) h = elim (or_here (halt_of run since) (halt_by run x since) h) [
  | inl before ↦ behind_one x since (ToTrigger run acts.Cut) (ordered_in run since before)
  | inr now ↦ subst (λ y. Contains (x ∷ since) y) (told_by run x since now) (first_of x since)
]

trigger_is_short : (r : ℕ) (a : Act) → Long (bodies.Trigger r a) → ⊥
trigger_is_short r a (OfJobs q text k) = cc
trigger_is_short r a (OfVerify q attempt text k) = cc

-- The Trigger that asks for the cut of the run at work is seen to have come.
pub cut_was_ordered : TakingLaws → (w : Setup) (s : ℕ) (evs : List Happening) (v : Work) → w.servers ≤ MAX_SERVERS
    → work (opening_of s) (list_at w s evs) ≡ Some v → wants_cut (halt_of v.run v.since) ≡ true
    → HasCome (observations w evs) (to_server s (bodies.Trigger v.run acts.Cut))
cut_was_ordered laws w s evs v few is wants =
    let o = opening_of s in
    let x = ToTrigger v.run acts.Cut in
    let all : AllCame o (list_at w s evs) (Some v) = subst (AllCame o (list_at w s evs)) is (all_came o (list_at w s evs)) in
    let at = came_in laws w s evs x few refl (all x (ordered_in v.run v.since wants)) in
    has_come laws w s evs x (to_server s (bodies.Trigger v.run acts.Cut)) few at (asks_trigger s v.run acts.Cut at.arrives_in.packet at.request)
    (trigger_is_short v.run acts.Cut)
