-- A run's job is taken at most once, and what is held of it is what was taken.
use Rattle.std.proofs.Common.{◌≡◌, refl, sym, ◌∙◌, subst, ℕ, ◌<◌, ◌≤◌, arith, Bool, true, false, ◌&&◌, ◌==◌, List, [], ◌∷◌, length, Option, None, Some}
use Rattle.std.specs.Prelude.{if◌then◌else◌}
use Rattle.std.specs.Option.{option_or}
use Rattle.std.proofs.lemmas.Bool.{eqb-true}
use Rattle.verify_state.specs.State.{State}
use Rattle.disk_model.specs.declared.save_outcome.SaveOutcome.{SaveOutcome}
use Rattle.disk_model.specs.declared.save_outcome.SaveOutcome.TheVariants.{NoSave, Saved, LostNew, LostOld}
use Rattle.node.proofs.StepLemmas.{and_true}
use Rattle.server_core.specs.History.{Opening, Entry, Met, Cut, Restart}
use Rattle.server_core.specs.Request.{Request, ToStage, ToStart, ToTrigger, ToMark, ToStop, ToVerify}
use Rattle.server_core.specs.Request.{ToHold, ToPassFully, ToIssue, ToEnd, ToReport, ToNobody, request_of}
use Rattle.server_core.specs.Run.{Work, Halt, Triggered, Stopped, halt_by, halt_of, goes_on}
use Rattle.server_core.specs.Words.{Staged, is_on, boot, last_run_after, work_after, last_run, work, staged_run, due}
use Rattle.server_core.specs.Taken.{state_of_job, taken_by_halt, triggers, takes_now, takes, and_those, takings}
use Rattle.server_core.proofs.Due.{IsStart, due_start}

-- A run's job that isn't worked on: it was never taken, or once, and then its run isn't above the last.
pub data Few (r last : ℕ) (states : List State) : Type 0 where
  untaken : states ≡ [] → Few r last states
  once : (state : State) → states ≡ state ∷ [] → r ≤ last → Few r last states

-- Where the run is worked on, the states are the one that was taken.
abbrev pub Stands : Bool → ℕ → ℕ → List State → Option State → Type 0
Stands true r last states now = states ≡ and_those now []
Stands false r last states now = Few r last states

pub record KnownOf (r j last : ℕ) (states : List State) (w : Work) : Type 0 where
  pub within : w.run ≤ last
  pub stands : Stands (w.run == r) r last states (taken_by_halt w j (halt_of w.run w.since))

-- What is known at a server.
abbrev pub Known : ℕ → ℕ → ℕ → List State → Option Work → Type 0
Known r j last states None = Few r last states
Known r j last states (Some w) = KnownOf r j last states w

chosen : (b : Bool) (w : Work) (j : ℕ) (halt : Halt) (x : Option State) → taken_by_halt w j (Some halt) ≡ x
    → taken_by_halt w j (if b then Some halt else None) ≡ (if b then x else None)
chosen true w j halt x h = h
chosen false w j halt x h = refl

none_both : (b : Bool) → ◌≡◌ {A = Option State} (if b then None else None) None
none_both true = refl
none_both false = refl

-- What the first halt takes.
new_taken : (w : Work) (j : ℕ) (x : Request) → taken_by_halt w j (halt_by w.run x w.since) ≡ (if triggers w.run x then state_of_job w j w.since else None)
new_taken w j (ToTrigger r act) = chosen (r == w.run) w j (Triggered act w.since) (state_of_job w j w.since) refl
new_taken w j (ToStop r) = chosen (r == w.run) w j Stopped None refl ∙ none_both (r == w.run)
new_taken w j (ToStage r text) = refl
new_taken w j (ToStart r) = refl
new_taken w j (ToMark r i) = refl
new_taken w j (ToVerify r a text) = refl
new_taken w j (ToHold a state) = refl
new_taken w j (ToPassFully a i) = refl
new_taken w j (ToIssue i) = refl
new_taken w j (ToEnd ticket end) = refl
new_taken w j (ToReport b a i report) = refl
new_taken w j ToNobody = refl

went_on : (hits : Bool) (w : Work) (j : ℕ) (b n : Option Halt) (states : List State) → taken_by_halt w j n ≡ (if hits then state_of_job w j w.since else None)
    → states ≡ and_those (taken_by_halt w j b) [] → and_those (takes_now hits w j b) states ≡ and_those (taken_by_halt w j (option_or b n)) []
went_on hits w j (Some halt) n states e h = h
went_on hits w j None n states e h = rw (e, h) refl

never : (u : Bool) (w : Work) (j : ℕ) (b : Option Halt) → takes_now (u && false) w j b ≡ None
never true w j None = refl
never false w j None = refl
never u w j (Some halt) = refl

-- A request of the present run, or of another.
stepped : (r j last : ℕ) (states : List State) (x : Request) (w : Work) (t : Bool) → (t ≡ true → w.run ≡ r)
    → Stands t r last states (taken_by_halt w j (halt_of w.run w.since))
    → Stands t r last (and_those (takes_now (triggers r x && t) w j (halt_of w.run w.since)) states)
    (taken_by_halt w j (option_or (halt_of w.run w.since) (halt_by w.run x w.since)))
stepped r j last states x w true e s =
    went_on (triggers r x && true) w j (halt_of w.run w.since) (halt_by w.run x w.since) states
    (subst (λ n. taken_by_halt w j (halt_by w.run x w.since) ≡ (if triggers n x && true then state_of_job w j w.since else None)) (e refl)
    (rw (and_true (triggers w.run x)) (new_taken w j x))) s
stepped r j last states x w false e s = rw (never (triggers r x) w j (halt_of w.run w.since)) s

kept_on : (r j last : ℕ) (states : List State) (x : Request) (w : Option Work) → Known r j last states w
    → Known r j last (and_those (takes r j x w) states) (goes_on x w)
kept_on r j last states x None k = k
kept_on r j last states x (Some w) k = record {
  within = k.within;
  stands = stepped r j last states x w (w.run == r) (eqb-true w.run r) k.stands;
}

few_of : (r last : ℕ) (states : List State) (now : Option State) → r ≤ last → states ≡ and_those now [] → Few r last states
few_of r last states None h e = untaken e
few_of r last states (Some state) h e = once state e h

few_at : (r last : ℕ) (states : List State) (run : ℕ) (now : Option State) (t : Bool) → (t ≡ true → run ≡ r) → run ≤ last → Stands t r last states now
    → Few r last states
few_at r last states run now true e h s = few_of r last states now (subst (λ n. n ≤ last) (e refl) h) s
few_at r last states run now false e h s = s

pub few : (r j last : ℕ) (states : List State) (w : Option Work) → Known r j last states w → Few r last states
few r j last states None k = k
few r j last states (Some w) k = few_at r last states w.run (taken_by_halt w j (halt_of w.run w.since)) (w.run == r) (eqb-true w.run r) k.within k.stands

raised : (r last n : ℕ) (states : List State) → last ≤ n → Few r last states → Few r n states
raised r last n states h (untaken e) = untaken e
raised r last n states h (once state e f) = once state e (omega arith)

begun_at : (r last n : ℕ) (states : List State) (t : Bool) → (t ≡ true → n ≡ r) → last < n → Few r last states → Stands t r n states None
begun_at r last n states true e h (untaken f) = f
begun_at r last n states true e h (once state f g) = let same = e refl in absurd (omega arith)
begun_at r last n states false e h k = raised r last n states (omega arith) k

no_taking_at : (u : Bool) (w : Work) (j : ℕ) (b : Option Halt) → takes_now (false && u) w j b ≡ None
no_taking_at u w j None = refl
no_taking_at u w j (Some halt) = refl

no_taking : (r j q : ℕ) (w : Option Work) → takes r j (ToStart q) w ≡ None
no_taking r j q None = refl
no_taking r j q (Some w) = no_taking_at (w.run == r) w j (halt_of w.run w.since)

-- An input with nothing due.
not_begun : (r j last : ℕ) (states : List State) (left : SaveOutcome) (me now_boot : ℕ) (x : Request) (w : Option Work) → Known r j last states w
    → Known r j last (and_those (takes r j x w) states) (work_after left None me now_boot x w)
not_begun r j last states NoSave me now_boot x w k = kept_on r j last states x w k
not_begun r j last states Saved me now_boot x w k = kept_on r j last states x w k
not_begun r j last states LostNew me now_boot x w k = few r j last _ (goes_on x w) (kept_on r j last states x w k)
not_begun r j last states LostOld me now_boot x w k = few r j last _ (goes_on x w) (kept_on r j last states x w k)

-- A Start that is due.
to_begin : (r j last : ℕ) (states : List State) (left : SaveOutcome) (s : Staged) (me now_boot : ℕ) (w : Option Work) → last < s.run → Known r j last states w
    → Known r j (last_run_after left (Some s) last) states (work_after left (Some s) me now_boot (ToStart s.run) w)
to_begin r j last states NoSave s me now_boot w h k =
    subst (λ o. Known r j last (and_those o states) (goes_on (ToStart s.run) w)) (no_taking r j s.run w) (kept_on r j last states (ToStart s.run) w k)
to_begin r j last states Saved s me now_boot w h k = record {
  within = omega arith;
  stands = begun_at r last s.run states (s.run == r) (eqb-true s.run r) h (few r j last states w k);
}
to_begin r j last states LostNew s me now_boot w h k = raised r last s.run states (omega arith) (few r j last states w k)
to_begin r j last states LostOld s me now_boot w h k = few r j last states w k

met : (r j last : ℕ) (states : List State) (left : SaveOutcome) (d : Option Staged) (me now_boot : ℕ) (x : Request) (w : Option Work)
    → ((s : Staged) → d ≡ Some s → IsStart last x s) → Known r j last states w
    → Known r j (last_run_after left d last) (and_those (takes r j x w) states) (work_after left d me now_boot x w)
met r j last states left None me now_boot x w f k = not_begun r j last states left me now_boot x w k
met r j last states left (Some s) me now_boot x w f k =
    let i = f s refl in
    subst (λ y. Known r j (last_run_after left (Some s) last) (and_those (takes r j y w) states) (work_after left (Some s) me now_boot y w)) (sym i.start)
    (subst (λ o. Known r j (last_run_after left (Some s) last) (and_those o states) (work_after left (Some s) me now_boot (ToStart s.run) w))
    (sym (no_taking r j s.run w))
    (to_begin r j last states left s me now_boot w i.above k))

-- What is known of each run's job after each list of inputs.
pub known : (o : Opening) (r j : ℕ) (past : List Entry) → Known r j (last_run o past) (takings o r j past) (work o past)
known o r j [] = untaken refl
known o r j (Met e left ∷ past) =
    met r j (last_run o past) (takings o r j past) left (due o past e) o.me (boot o past) (request_of o.me e) (work o past)
    (due_start (is_on past) (last_run o past) (staged_run o past) (work o past) (request_of o.me e)) (known o r j past)
known o r j (Cut ∷ past) = few r j (last_run o past) (takings o r j past) (work o past) (known o r j past)
known o r j (Restart left ∷ past) = few r j (last_run o past) (takings o r j past) (work o past) (known o r j past)

at_most_one : {r last : ℕ} {states : List State} → Few r last states → length states ≤ 1
at_most_one (untaken e) = rw e (omega arith)
at_most_one (once state e h) = rw e (omega arith)

few_known : (o : Opening) (r j : ℕ) (past : List Entry) → Few r (last_run o past) (takings o r j past)
few_known o r j past = few r j (last_run o past) (takings o r j past) (work o past) (known o r j past)

pub taken_at_most_once : (o : Opening) (r j : ℕ) (past : List Entry) → length (takings o r j past) ≤ 1
taken_at_most_once o r j past = at_most_one (few_known o r j past)
