-- Between a taking and a check with a state of the same run, no write is issued.
use Rattle.std.proofs.Common.{◌≡◌, refl, sym, ◌∙◌, ap, subst, ℕ, ◌≤◌, arith, Bool, true, false, ◌&&◌, ◌==◌, List, [], ◌∷◌, ◌++◌, Option, None, Some}
use Rattle.std.specs.Prelude.{is_some, slice_get}
use Rattle.std.specs.Option.{option_or}
use Rattle.std.proofs.lemmas.Bool.{eqb-true}
use Rattle.job_file.specs.declared.job.Job.{Job}
use Rattle.verify_state.specs.State.{State}
use Rattle.engine.specs.Answers.{is_write}
use Rattle.server_core.specs.Inputs.{PacketInput}
use Rattle.disk_model.specs.declared.save_outcome.SaveOutcome.{SaveOutcome}
use Rattle.disk_model.specs.declared.save_outcome.SaveOutcome.TheVariants.{NoSave, Saved, LostNew, LostOld}
use Rattle.server_core.specs.History.{Opening, Entry, Met, Cut, Restart}
use Rattle.server_core.specs.Request.{Request, ToStage, ToStart, ToTrigger, ToMark, ToStop, ToVerify}
use Rattle.server_core.specs.Request.{ToHold, ToPassFully, ToIssue, ToEnd, ToReport, ToNobody, request_of}
use Rattle.server_core.specs.Run.{Work, Halt, halt_by, halt_of, is_halted, goes_on}
use Rattle.server_core.specs.Words.{Staged, is_on, boot, last_run_after, work_after, last_run, work, staged_run, due}
use Rattle.server_core.specs.Taken.{triggers, takes_now, takes, takings}
use Rattle.server_core.specs.Answers.{issue_of_job, issue_of, issue_for, issue}
use Rattle.server_core.specs.Laws.{gives_write}
use Rattle.server_core.proofs.Due.{IsStart, due_start, last_grows}
use Rattle.server_core.proofs.Takings.{Known, known}
use Rattle.server_core.specs.Check.{With, progress}
use Rattle.server_core.proofs.HeldLemmas.{with_state}
use Rattle.server_core.proofs.StayLemmas.{still}
use Rattle.fc_base.specs.declared.numbers.Key.{Key}

-- The run that the server works on is this one, and it is halted.
abbrev Calm : ℕ → Option Work → Type 0
Calm run None = Unit {0}
Calm run (Some w) = (w.run ≡ run) × (is_halted w ≡ true)

calm_on : (run : ℕ) (x : Request) (w : Option Work) → Calm run w → Calm run (goes_on x w)
calm_on run x None c = c
calm_on run x (Some w) c = (c.0, still (halt_of w.run w.since) (halt_by w.run x w.since) c.1)

calm_after : (run last : ℕ) (left : SaveOutcome) (d : Option Staged) (me now_boot : ℕ) (x : Request) (w : Option Work) → ((s : Staged) → d ≡ Some s → IsStart last x s)
    → last_run_after left d last ≡ last → Calm run w → Calm run (work_after left d me now_boot x w)
calm_after run last NoSave d me now_boot x w f e c = calm_on run x w c
calm_after run last Saved None me now_boot x w f e c = calm_on run x w c
calm_after run last Saved (Some s) me now_boot x w f e c = let above = (f s refl).above in absurd (omega arith)
calm_after run last LostNew d me now_boot x w f e c = tt
calm_after run last LostOld d me now_boot x w f e c = tt

calm_met : (o : Opening) (run : ℕ) (e : Entry) (past : List Entry) → last_run o (e ∷ past) ≡ last_run o past → Calm run (work o past)
    → Calm run (work o (e ∷ past))
calm_met o run (Met e left) past same c =
    calm_after run (last_run o past) left (due o past e) o.me (boot o past) (request_of o.me e) (work o past)
    (due_start (is_on past) (last_run o past) (staged_run o past) (work o past) (request_of o.me e)) same c
calm_met o run Cut past same c = tt
calm_met o run (Restart left) past same c = tt

-- What a taking shows.
record Takes (run j : ℕ) (x : Request) (w : Work) : Type 0 where
  pub hits : triggers run x ≡ true
  pub here : w.run ≡ run

hit : (u t : Bool) (w : Work) (j : ℕ) (b : Option Halt) (state : State) → takes_now (u && t) w j b ≡ Some state → (u ≡ true) × (t ≡ true)
hit true true w j b state h = (refl, refl)
hit true false w j None state h = cc
hit true false w j (Some halt) state h = cc
hit false t w j None state h = cc
hit false t w j (Some halt) state h = cc

takes_of : (run j : ℕ) (x : Request) (w : Work) (state : State) → takes run j x (Some w) ≡ Some state → Takes run j x w
takes_of run j x w state h =
    let p = hit (triggers run x) (w.run == run) w j (halt_of w.run w.since) state h in
    record { hits = p.0; here = eqb-true w.run run p.1 }

halt_now : (run : ℕ) (x : Request) (b : Option Halt) (since : List Request) → triggers run x ≡ true → is_some (option_or b (halt_by run x since)) ≡ true
halt_now run x (Some halt) since h = refl
halt_now run (ToTrigger r act) None since h = rw h refl
halt_now run (ToStop r) None since h = cc
halt_now run (ToStage r text) None since h = cc
halt_now run (ToStart r) None since h = cc
halt_now run (ToMark r i) None since h = cc
halt_now run (ToVerify r a text) None since h = cc
halt_now run (ToHold a state) None since h = cc
halt_now run (ToPassFully a i) None since h = cc
halt_now run (ToIssue i) None since h = cc
halt_now run (ToEnd ticket end) None since h = cc
halt_now run (ToReport b a i report) None since h = cc
halt_now run ToNobody None since h = cc

no_start : (run q : ℕ) → triggers run (ToStart q) ≡ true → ⊥
no_start run q h = cc

calm_taking : (run : ℕ) (x : Request) (w : Work) (left : SaveOutcome) (d : Option Staged) (last me now_boot : ℕ) → ((s : Staged) → d ≡ Some s → IsStart last x s)
    → triggers run x ≡ true → w.run ≡ run → Calm run (work_after left d me now_boot x (Some w))
calm_taking run x w NoSave d last me now_boot f h e = (e, halt_now w.run x (halt_of w.run w.since) w.since (subst (λ n. triggers n x ≡ true) (sym e) h))
calm_taking run x w Saved None last me now_boot f h e = (e, halt_now w.run x (halt_of w.run w.since) w.since (subst (λ n. triggers n x ≡ true) (sym e) h))
calm_taking run x w Saved (Some s) last me now_boot f h e =
    let i = f s refl in absurd (no_start run s.run (subst (λ y. triggers run y ≡ true) i.start h))
calm_taking run x w LostNew d last me now_boot f h e = tt
calm_taking run x w LostOld d last me now_boot f h e = tt

within : (r j last : ℕ) (states : List State) (w : Work) → Known r j last states (Some w) → w.run ≤ last
within r j last states w k = k.within

-- Just behind a taking, the last run is its run and the run is halted.
record IsBehind (o : Opening) (run : ℕ) (list : List Entry) : Type 0 where
  pub least : run ≤ last_run o list
  pub calm : Calm run (work o list)

behind_at : (o : Opening) (run j : ℕ) (e : PacketInput) (left : SaveOutcome) (past : List Entry) (x : Option Work) (state : State) → work o past ≡ x
    → takes run j (request_of o.me e) x ≡ Some state → IsBehind o run (Met e left ∷ past)
behind_at o run j e left past None state is h = cc
behind_at o run j e left past (Some w) state is h =
    let t = takes_of run j (request_of o.me e) w state h in
    let k = subst (λ v. Known run j (last_run o past) (takings o run j past) v) is (known o run j past) in
    let g = last_grows o (Met e left) past in
    let in_last : w.run ≤ last_run o past = within run j (last_run o past) (takings o run j past) w k in
    let least : run ≤ last_run o past = subst (λ n. n ≤ last_run o past) t.here in_last in
    record {
      least = omega arith;
      calm = subst (λ v. Calm run (work_after left (due o past e) o.me (boot o past) (request_of o.me e) v)) (sym is)
          (calm_taking run (request_of o.me e) w left (due o past e) (last_run o past) o.me (boot o past)
          (due_start (is_on past) (last_run o past) (staged_run o past) (work o past) (request_of o.me e)) t.hits t.here);
    }

least_on : (o : Opening) (run : ℕ) (between list : List Entry) → run ≤ last_run o list → run ≤ last_run o (between ++ list)
least_on o run [] list h = h
least_on o run (e ∷ between) list h = let g = last_grows o e (between ++ list) in let i = least_on o run between list h in omega arith

-- As long as the last run is that run, it stays halted.
calm_behind : (o : Opening) (run : ℕ) (between list : List Entry) → IsBehind o run list → last_run o (between ++ list) ≡ run
    → Calm run (work o (between ++ list))
calm_behind o run [] list b e = b.calm
calm_behind o run (x ∷ between) list b e =
    let g = last_grows o x (between ++ list) in
    let i = least_on o run between list b.least in
    let here : last_run o (between ++ list) ≡ run = omega arith in
    calm_met o run x (between ++ list) (e ∙ sym here) (calm_behind o run between list b here)

stopped_answer : (w : Work) (j : ℕ) (job : Option Job) → is_halted w ≡ true → is_write (issue_of_job w j job) ≡ false
stopped_answer w j None h = refl
stopped_answer w j (Some job) h = rw h refl

calm_answer : (run j : ℕ) (w : Option Work) → Calm run w → is_write (issue_of j w) ≡ false
calm_answer run j None c = refl
calm_answer run j (Some w) c = stopped_answer w j (slice_get w.jobs j) c.1

no_write : (run : ℕ) (x : Request) (w : Option Work) → Calm run w → gives_write (issue_for w x) ≡ false
no_write run (ToIssue j) w c = calm_answer run j w c
no_write run (ToStage r text) w c = refl
no_write run (ToStart r) w c = refl
no_write run (ToTrigger r act) w c = refl
no_write run (ToMark r i) w c = refl
no_write run (ToStop r) w c = refl
no_write run (ToVerify r a text) w c = refl
no_write run (ToHold a state) w c = refl
no_write run (ToPassFully a i) w c = refl
no_write run (ToEnd ticket end) w c = refl
no_write run (ToReport b a i report) w c = refl
no_write run ToNobody w c = refl

pub quiet_while_last : (o : Opening) (older between : List Entry) (trigger e : PacketInput) (was : SaveOutcome) (run j : ℕ) (state : State)
    → takes run j (request_of o.me trigger) (work o older) ≡ Some state
    → last_run o (between ++ Met trigger was ∷ older) ≡ run → gives_write (issue o (between ++ Met trigger was ∷ older) e) ≡ false
quiet_while_last o older between trigger e was run j state h last =
    no_write run (request_of o.me e) (work o (between ++ Met trigger was ∷ older))
    (calm_behind o run between (Met trigger was ∷ older) (behind_at o run j trigger was older (work o older) state refl h) last)

pub quiet_until_check : (o : Opening) (older between newer : List Entry) (trigger e : PacketInput) (was left : SaveOutcome) (run j i : ℕ) (state with_it : State)
    → takes run j (request_of o.me trigger) (work o older) ≡ Some state
    → progress o (newer ++ Met e left ∷ (between ++ Met trigger was ∷ older)) i ≡ Some (With with_it) → with_it.key.run ≡ run
    → gives_write (issue o (between ++ Met trigger was ∷ older) e) ≡ false
quiet_until_check o older between newer trigger e was left run j i state with_it h p same =
    let list = between ++ Met trigger was ∷ older in
    let w = with_state o (newer ++ Met e left ∷ list) i with_it p in
    let run_is : with_it.key.run ≡ last_run o (newer ++ Met e left ∷ list) = ap (λ (k : Key). k.run) w.key in
    let b = behind_at o run j trigger was older (work o older) state refl h in
    let low = least_on o run between (Met trigger was ∷ older) b.least in
    let step_up = last_grows o (Met e left) list in
    let up = least_on o (last_run o (Met e left ∷ list)) newer (Met e left ∷ list) (omega arith) in
    let last : last_run o list ≡ run = omega arith in
    quiet_while_last o older between trigger e was run j state h last
