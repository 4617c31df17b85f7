-- The settings of a state and how many writes it tells are as it is seen.
use Rattle.std.proofs.Common.{◌≡◌, refl, sym, ◌∙◌, ap, subst, List, [], ◌∷◌, ◌++◌, Some}
use Rattle.std.specs.Prelude.{◌≤◌, slice_get}
use Rattle.std.specs.Option.{option_and_then}
use Rattle.fc_base.specs.declared.limits.TheConstants.{MAX_SERVERS}
use Rattle.job_file.specs.declared.job.Job.{Job}
use Rattle.job_file.specs.declared.job.Phase.TheVariants.{Write}
use Rattle.verify_state.specs.State.{State}
use Rattle.engine.specs.History.{issued}
use Rattle.engine.specs.Running.{Origin}
use Rattle.disk_model.specs.declared.save_outcome.SaveOutcome.TheVariants.{Saved}
use Rattle.server_core.specs.Inputs.{PacketInput}
use Rattle.server_core.specs.History.{Opening, Entry, Met}
use Rattle.server_core.specs.Request.{Request, request_of}
use Rattle.server_core.specs.Run.{Work, origin_of, history}
use Rattle.server_core.specs.Words.{Staged, boot, last_run, work, work_after, due}
use Rattle.server_core.specs.Taken.{takes, job_state}
use Rattle.net_world.specs.Setup.{Setup}
use Rattle.net_world.specs.Happenings.{Happening}
use Rattle.net_world.specs.Trace.{opening_of}
use Rattle.seen.specs.Texts.{text_of, job_in, job_of}
use Rattle.seen.specs.Watching.{observations}
use Rattle.seen.proofs.ServerLemmas.{taking_is_of}
use Rattle.seen.proofs.PlaceLemmas.{list_at, entry_now, with_one, seen_since}
use Rattle.seen.proofs.WorkLemmas.{work_has_text}
use Rattle.seen.proofs.CheckLemmas.{text_has}
use Rattle.seen.proofs.FileLemmas.{FileLaws, text_seen}
use Rattle.seen.proofs.IssuedLemmas.{IssuedLaws, AreGiven, are_given}

-- The job of a state, as it is seen.
pub record IsSet (w : Setup) (evs : List Happening) (state : State) : Type 0 where
  pub job : Job
  pub has_job : job_of state.key (observations w evs) ≡ Some job
  pub settings : state.job ≡ job.rec

state_job : (origin : Origin) (before : List Request) (state : State) → job_state origin before ≡ state → origin.job ≡ state.job
unfolding job_state
state_job origin before state h = ap (λ (x : State). x.job) h

pub is_set : FileLaws → (w : Setup) (evs : List Happening) (state : State) (x : Request) → w.servers ≤ MAX_SERVERS
    → takes state.key.run state.key.job x (work (opening_of state.key.server) (list_at w state.key.server evs)) ≡ Some state
    → IsSet w evs state
is_set laws w evs state x few pulls =
    let key = state.key in
    let s = key.server in
    let o = opening_of s in
    let list = list_at w s evs in
    let k = taking_is_of key.run key.job x (work o list) state pulls in
    let t = work_has_text laws.taking.server.due o list k.at k.is_at in
    let seen = text_seen laws w s evs k.at.run k.at.jobs few t in
    let jobs = text_has Write t.text k.at.jobs t.is in
    record {
      job = k.job;
      has_job =
          ap (λ r. option_and_then (job_in key.job) (text_of r (observations w evs))) (sym k.run_is)
          ∙ ap (option_and_then (job_in key.job)) seen ∙ ap (λ l. slice_get l key.job) jobs ∙ k.has_job;
      settings = sym (state_job (origin_of k.at key.job k.job) k.at.since state k.state_is);
    }

-- ---- how many writes it tells

state_issued : (origin : Origin) (before : List Request) (state : State) → job_state origin before ≡ state → issued (history origin before) ≡ state.issued
unfolding job_state
state_issued origin before state h = ap (λ (x : State). x.issued) h

-- A run begins with no write.
begun : (o : Opening) (list : List Entry) (start : PacketInput) (staged : Staged) → due o list start ≡ Some staged
    → (u : Work) × (work o (Met start Saved ∷ list) ≡ Some u) × (u.since ≡ [])
begun o list start staged h = (
  record { server = o.me; boot = boot o list; run = staged.run; jobs = staged.jobs; since = [] },
  ap (λ d. work_after Saved d o.me (boot o list) (request_of o.me start) (work o list)) h,
  refl,
)

-- Exactly the writes that a state tells as issued are seen to be given since the Start of its run.
pub issued_are_given : IssuedLaws → (w : Setup) (mid : List Happening) (f : Happening) (earlier : List Happening) (state : State) (x : Request)
    (start : PacketInput) (staged : Staged) → entry_now w state.key.server earlier f ≡ Some (Met start Saved)
    → due (opening_of state.key.server) (list_at w state.key.server earlier) start ≡ Some staged
    → last_run (opening_of state.key.server) (list_at w state.key.server (f ∷ earlier)) ≡ state.key.run
    → last_run (opening_of state.key.server) (list_at w state.key.server (mid ++ f ∷ earlier)) ≡ state.key.run
    → takes state.key.run state.key.job x (work (opening_of state.key.server) (list_at w state.key.server (mid ++ f ∷ earlier))) ≡ Some state
    → AreGiven (seen_since w mid (f ∷ earlier)) state.key.server state.key.job state.issued
issued_are_given laws w mid f earlier state x start staged met accepted first last pulls =
    let key = state.key in
    let s = key.server in
    let o = opening_of s in
    let base = f ∷ earlier in
    let k = taking_is_of key.run key.job x (work o (list_at w s (mid ++ base))) state pulls in
    let u = begun o (list_at w s earlier) start staged accepted in
    let at_base : work o (list_at w s base) ≡ Some u.0 = ap (work o) (with_one w s earlier f (Met start Saved) met) ∙ u.1 in
    subst (AreGiven (seen_since w mid base) s key.job) (state_issued (origin_of k.at key.job k.job) k.at.since state k.state_is)
    (are_given laws w s key.run key.job mid base u.0 k.at k.job at_base u.2 first last k.is_at k.has_job)
