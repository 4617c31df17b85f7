-- What is answered for a job, part by part.
use Rattle.std.proofs.Common.{◌≡◌, ℕ, List, [], Option, Some, None, IfSome, IfOk, Result, Ok, Err, refl, sym, ◌∙◌, subst, inl, inr}
use Rattle.fc_base.specs.declared.limits.TheConstants.{MAX_TEXT}
use Rattle.fc_base.specs.declared.numbers.Key.{Key}
use Rattle.fc_base.specs.declared.fault.Fault.{Fault}
use Rattle.fc_base.specs.declared.fault.Fault.TheVariants.{WrongPhase}
use Rattle.fc_base.specs.declared.report.ReportParts.{ReportParts}
use Rattle.job_file.specs.declared.job.Job.{Job}
use Rattle.job_file.specs.declared.job.Phase.{Phase}
use Rattle.job_file.specs.declared.job.Phase.TheVariants.{Read, Write}
use Rattle.job_file.specs.JobSet.{phase_in}
use Rattle.verify_state.specs.State.{State}
use Rattle.engine.specs.Running.{Origin}
use Rattle.program_io.specs.declared.refusal.PrintedRefusal.{PrintedRefusal}
use Rattle.program_io.specs.Refusals.{plain}
use Rattle.targets.specs.declared.job_setup.JobSetup.{JobSetup}
use Rattle.targets.specs.declared.writing.RunEnd.{RunEnd}
use Rattle.targets.specs.declared.drive_check.TheConstants.{MAX_STATE}
use Rattle.targets.specs.Checks.{Checks}
use Rattle.targets.specs.Texts.{IsText}
use Rattle.targets.specs.Runs.{Runs}
use Rattle.targets.specs.Jobs.{key_of, BeginsWithJob, FinishesRun, GivesNoJob, ReadsJob, Refuses, RunsRest, WritesJob}
use Rattle.targets.specs.Reports.{CannotCheck, ChecksInput, ChecksJob, HasNoState, IsStateIn}

-- A text that was read of known bytes leaves known ones.
pub text_leaves : (most : ℕ) (input : List ℕ) (new : Option (List ℕ)) (text : List ℕ) → IsText most (Some input) new text → (rest : List ℕ) × (new ≡ Some rest)
text_leaves most input None text is = absurd is.bytes
text_leaves most input (Some rest) text is = (rest, refl)

-- A run of known bytes is finished.
pub finished : {E : Type 0} (origin : Origin) (r : Result ℕ E) (input old mid new : Option (List ℕ)) (end : RunEnd)
    → IfSome input (λ rest. Runs origin rest old mid end) → IfOk r (FinishesRun end mid new) → IfSome input (λ rest. IfOk r (RunsRest origin rest old new))
finished origin r None old mid new end runs ends = tt
finished origin (Err e) (Some rest) old mid new end runs ends = tt
finished origin (Ok status) (Some rest) old mid new end runs ends = inl (end, mid, runs, ends)

-- The job that is asked for stands in front of known bytes.
pub record Begins (number : ℕ) (input : List ℕ) (rest : Option (List ℕ)) (asked : JobSetup) : Type 0 where
  pub job : Job
  pub behind : List ℕ
  pub leaves : rest ≡ Some behind
  pub begins : BeginsWithJob number input behind job
  pub rec : asked.rec ≡ job.rec
  pub fatal : asked.fatal ≡ job.fatal
  pub phase : asked.phase ≡ phase_in begins.text

pub begins_with : (number : ℕ) (input : List ℕ) (rest : Option (List ℕ)) (asked : JobSetup) → ReadsJob number (Some input) rest asked → Begins number input rest asked
begins_with number input rest asked reads =
    let left = text_leaves MAX_TEXT input rest reads.text reads.is_text in
    record {
      job = reads.is_asked.job;
      behind = left.0;
      leaves = left.1;
      begins = record {
        text = reads.text;
        is_text = subst (λ r. IsText MAX_TEXT (Some input) r reads.text) left.1 reads.is_text;
        is_job = reads.is_asked.is_job;
      };
      rec = reads.is_asked.rec;
      fatal = reads.is_asked.fatal;
      phase = reads.is_asked.phase;
    }

-- A job that writes is run.
pub ran : {E : Type 0} (run number : ℕ) (first rest : Option (List ℕ)) (asked : JobSetup) (r : Result ℕ E) (key : Key) (old new : Option (List ℕ))
    → ReadsJob number first rest asked → asked.phase ≡ Write → key ≡ key_of run number
    → IfSome rest (λ bytes. IfOk r (RunsRest (record { boot = 0; key = key; job = asked.rec }) bytes old new))
    → IfSome first (λ input. IfOk r (WritesJob run number input old new))
ran run number None rest asked r key old new reads writes same runs = tt
ran run number (Some input) rest asked (Err e) key old new reads writes same runs = tt
ran run number (Some input) rest asked (Ok status) key old new reads writes same runs =
    let at = begins_with number input rest asked reads in
    let known : RunsRest (record { boot = 0; key = key; job = asked.rec }) at.behind old new status =
    subst (λ r. IfSome r (λ bytes. RunsRest (record { boot = 0; key = key; job = asked.rec }) bytes old new status)) at.leaves runs in
    inl (record {
      job = at.job;
      behind = at.behind;
      begins = at.begins;
      writes = sym at.phase ∙ writes;
      runs = subst (λ j. RunsRest (record { boot = 0; key = key_of run number; job = j }) at.behind old new status) at.rec
          (subst (λ k. RunsRest (record { boot = 0; key = k; job = asked.rec }) at.behind old new status) same known);
    })

-- A job that reads doesn't write.
pub reads_only : (phase : Phase) → phase ≡ Read → phase ≡ Write → ⊥
reads_only phase reads writes = let both : Read ≡ Write = sym reads ∙ writes in absurd cc

-- A job that doesn't write isn't.
pub wrong_phase : {E : Type 0} (run number : ℕ) (first rest : Option (List ℕ)) (asked : JobSetup) (r : Result ℕ E) (old new : Option (List ℕ))
    → ReadsJob number first rest asked → (asked.phase ≡ Write → ⊥)
    → IfOk r (Refuses (plain WrongPhase) old new) → IfSome first (λ input. IfOk r (WritesJob run number input old new))
wrong_phase run number None rest asked r old new reads other refuses = tt
wrong_phase run number (Some input) rest asked (Err e) old new reads other refuses = tt
wrong_phase run number (Some input) rest asked (Ok status) old new reads other refuses =
    inr (plain WrongPhase, inr (reads.text, rest, reads.is_text, reads.is_asked.is_job.sound, λ writes. other (reads.is_asked.phase ∙ writes), refl), refuses)

-- Nor one that isn't there.
pub no_job : {E : Type 0} (run number : ℕ) (first : Option (List ℕ)) (refusal : PrintedRefusal) (r : Result ℕ E) (old new : Option (List ℕ))
    → GivesNoJob first number refusal
    → IfOk r (Refuses refusal old new) → IfSome first (λ input. IfOk r (WritesJob run number input old new))
no_job run number None refusal r old new none refuses = tt
no_job run number (Some input) refusal (Err e) old new none refuses = tt
no_job run number (Some input) refusal (Ok status) old new none refuses = inr (refusal, inl none, refuses)

-- ---- checks

-- A state, or none, that was read of known bytes leaves known ones.
pub state_leaves : (input : List ℕ) (new : Option (List ℕ)) (state : Option State) → IsStateIn (Some input) new state → (rest : List ℕ) × (new ≡ Some rest)
state_leaves input new None is = text_leaves MAX_STATE input new [] is
state_leaves input new (Some state) (bytes, is, few, answers) = text_leaves MAX_STATE input new bytes is

-- What is checked is the input's.
pub checked : (key : Key) (first rest target : Option (List ℕ)) (asked : JobSetup) (state : Option State) (answer : Result ReportParts Fault)
    → ReadsJob key.job first rest asked → IsStateIn rest target state
    → IfSome target (λ bytes. Checks key asked.rec state asked.fatal bytes answer)
    → IfSome first (λ input. ChecksInput key input answer)
checked key None rest target asked state answer reads is checks = tt
checked key (Some input) rest target asked state answer reads is checks =
    let at = begins_with key.job input rest asked reads in
    let of_it : IsStateIn (Some at.behind) target state = subst (λ r. IsStateIn r target state) at.leaves is in
    let left = state_leaves at.behind target state of_it in
    let known : Checks key asked.rec state asked.fatal left.0 answer =
    subst (λ t. IfSome t (λ bytes. Checks key asked.rec state asked.fatal bytes answer)) left.1 checks in
    record {
      job = at.job;
      state = state;
      behind = at.behind;
      target = left.0;
      begins = at.begins;
      is_state = subst (λ t. IsStateIn (Some at.behind) t state) left.1 of_it;
      checks = subst (λ f. Checks key at.job.rec state f left.0 answer) at.fatal
          (subst (λ j. Checks key j state asked.fatal left.0 answer) at.rec known);
    }

-- A state that isn't there.
pub no_state : (key : Key) (first rest : Option (List ℕ)) (asked : JobSetup) (fault : Fault) (refusal : PrintedRefusal) → ReadsJob key.job first rest asked
    → HasNoState rest fault → refusal ≡ plain fault
    → IfSome first (λ input. CannotCheck key input refusal)
no_state key None rest asked fault refusal reads none is = tt
no_state key (Some input) rest asked fault refusal reads none is =
    let at = begins_with key.job input rest asked reads in
    inr (inl (at.job, at.behind, fault, at.begins, subst (λ r. HasNoState r fault) at.leaves none, is))

-- A check that is refused.
pub not_checked : (key : Key) (first : Option (List ℕ)) (fault : Fault) (refusal : PrintedRefusal)
    → IfSome first (λ input. ChecksInput key input (Err fault)) → refusal ≡ plain fault
    → IfSome first (λ input. CannotCheck key input refusal)
not_checked key None fault refusal checks is = tt
not_checked key (Some input) fault refusal checks is = inr (inr (fault, checks, is))

-- What is answered then.
pub check_refused : {E : Type 0} (run number : ℕ) (key : Key) (first : Option (List ℕ)) (refusal : PrintedRefusal) (status : Result ℕ E)
    (old new : Option (List ℕ)) → key ≡ key_of run number → IfSome first (λ input. CannotCheck key input refusal)
    → IfOk status (Refuses refusal old new) → IfSome first (λ input. IfOk status (ChecksJob run number input old new))
check_refused run number key None refusal status old new same cannot refuses = tt
check_refused run number key (Some input) refusal (Err e) old new same cannot refuses = tt
check_refused run number key (Some input) refusal (Ok s) old new same cannot refuses =
    inr (refusal, subst (λ k. CannotCheck k input refusal) same cannot, refuses)

pub nothing_said : (first : Option (List ℕ)) → IfSome first (λ input. Unit {0})
nothing_said None = tt
nothing_said (Some input) = tt
