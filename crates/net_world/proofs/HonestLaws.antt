-- What a check faults on honest disks.
use Rattle.std.proofs.Common.{◌≡◌, refl, sym, ◌∙◌, ap, subst, ℕ, List, [], ◌∷◌, Some}
use Rattle.std.specs.Prelude.{Contains}
use Rattle.fc_base.specs.declared.numbers.Key.{Key}
use Rattle.fc_base.specs.declared.record.JobParts.{JobParts}
use Rattle.job_file.specs.declared.job.Job.{Job}
use Rattle.verify_state.specs.State.{State}
use Rattle.server_core.specs.Check.{Check, With, progress}
use Rattle.server_core.specs.Words.{last_run}
use Rattle.server_core.specs.Answers.{job_of_check}
use Rattle.server_core.specs.Laws.{WithWasHeard}
use Rattle.server_core.specs.OpenCheck.{OpenCheckIsLast}
use Rattle.net_world.specs.Setup.{Setup}
use Rattle.net_world.specs.Trace.{IsTrace, opening_of, of_server}
use Rattle.net_world.specs.Holders.{ByCheck, taken_of}
use Rattle.net_world.specs.Changes.{Change, Met, Landed, Rotted, trace}
use Rattle.net_world.specs.Contents.{content}
use Rattle.net_world.specs.Checks.{key_of}
use Rattle.net_world.specs.World.{world}
use Rattle.net_world.specs.WorldLaws.{EachWorldIsATrace}
use Rattle.net_world.specs.Honest.{AreHonest, HasAllSectors, AreWhole, IsCheckedWith}
use Rattle.net_world.specs.Claims.{OfEachWorld}
use Rattle.net_world.specs.Headline.{FewFaults, NoFaults}
use Rattle.net_world.proofs.VerdictLemmas.{Passes, held_was_taken}
use Rattle.net_world.proofs.ExactLemmas.{progress_is}
use Rattle.net_world.proofs.GroundLemmas.{Ground}
use Rattle.net_world.proofs.NotionLemmas.{Notion, Survives, Always, OfState}
use Rattle.net_world.proofs.HonestLemmas.{MayLand, kept, only_is}
use Rattle.net_world.proofs.LastWriteLemmas.{Any, last_survives}
use Rattle.net_world.proofs.CurrentWriteLemmas.{current_survives}
use Rattle.net_world.proofs.ExpectedLemmas.{WriteTheSame, fits_job}
use Rattle.net_world.proofs.FaultLemmas.{few, none}
use Rattle.net_world.proofs.ListLemmas.{some_is}

-- The laws on which this rests.
pub record Rests : Type 0 where
  pub passes : Passes
  pub heard : WithWasHeard
  pub check_is : OpenCheckIsLast
  pub ground : Ground
  pub traces : EachWorldIsATrace

-- Any write may land by any mask.
any_lands : (w : Setup) (s j : ℕ) (past : List Change) → MayLand Any w s j past
any_lands w s j [] = tt
any_lands w s j (Met step ∷ past) = any_lands w s j past
any_lands w s j (Landed r i k mask ∷ past) = (any_lands w s j past, λ here origin is. tt)
any_lands w s j (Rotted r i sector bytes ∷ past) = any_lands w s j past

whole_lands : (w : Setup) (s j : ℕ) (past : List Change) → AreWhole w s j past → MayLand HasAllSectors w s j past
whole_lands w s j [] whole = tt
whole_lands w s j (Met step ∷ past) whole = whole_lands w s j past whole
whole_lands w s j (Landed r i k mask ∷ past) whole = (whole_lands w s j past whole.0, whole.1)
whole_lands w s j (Rotted r i sector bytes ∷ past) whole = whole_lands w s j past whole

abbrev make_key : ℕ → ℕ → ℕ → Key
make_key r s j = record { run = r; server = s; job = j }

-- What is known of the state that a job is checked with.
record Found (P : Notion) (w : Setup) (past : List Change) (s j : ℕ) (c : Check) (job : Job) (state : State) : Type 0 where
  pub key : state.key ≡ key_of c j
  pub same : WriteTheSame job.rec state.job
  pub held : OfState P (content w past s j) state

found : {P : Notion} {May : ℕ → JobParts → Type 0} → Rests → Survives Always May P → (w : Setup) (past : List Change) (s j : ℕ) (c : Check) (job : Job) (state : State)
    → IsTrace w (trace w past) → AreHonest w s j past → MayLand May w s j past → IsCheckedWith w past s j c job state → Found P w past s j c job state
found {P} laws v w past s j c job state tr honest may is =
    let o = opening_of s in
    let list = of_server s (trace w past) in
    let run = last_run o list in
    let shown : progress o list j ≡ Some (With state) = progress_is o list j c job (With state) is.is_open is.has_job is.made in
    let heard = laws.heard o list j state shown in
    let here = laws.check_is o list c is.is_open in
    let key : state.key ≡ key_of c j = heard.key ∙ sym (ap (λ r. make_key r s j) here.run) ∙ sym (ap (λ m. make_key c.run m j) here.server) in
    let job_is : heard.job ≡ job = some_is (sym heard.is_job ∙ ap (λ x. job_of_check x j) is.is_open ∙ is.has_job) in
    let taken : Contains (taken_of (make_key run s j) (trace w past)) state =
    held_was_taken laws.passes w (trace w past) (make_key run s j) state tr (ByCheck s j shown heard.key) in
    record {
      key = key;
      same = subst (λ (x : Job). WriteTheSame x.rec state.job) job_is (fits_job state state.key heard.job.rec heard.fits);
      held = subst (λ c. OfState P c state) (only_is j j (content w past s j) refl)
          ((kept laws.ground v w s j past honest may).states j state taken (ap (λ (k : Key). k.job) key));
    }

pub few_faults : Rests → OfEachWorld FewFaults
few_faults laws w events few_servers s j c job state block honest is faulty =
    let f = found laws (last_survives laws.ground) w (world w events) s j c job state (laws.traces w events few_servers) honest
    (any_lands w s j (world w events)) is in
    few w (world w events) s j c job state block f.key f.same f.held faulty

pub no_faults : Rests → OfEachWorld NoFaults
no_faults laws w events few_servers s j c job state block honest whole is faulty =
    let f = found laws (current_survives laws.ground) w (world w events) s j c job state (laws.traces w events few_servers) honest
    (whole_lands w s j (world w events) whole) is in
    none w (world w events) s j c job state block f.key f.same f.held faulty
