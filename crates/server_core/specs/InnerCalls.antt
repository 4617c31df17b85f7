-- What calls inside a server answer.
use Rattle.std.specs.Prelude.{◌≡◌, ◌⊎◌, ℕ, List, [], Option, Some, None, Result, Ok, Err}
use Rattle.std.specs.declared.alloc.AllocError.{AllocError}
use Rattle.fc_base.specs.declared.fault.Fault.{Fault}
use Rattle.fc_base.specs.declared.fault.Fault.TheVariants.{NoMemory}
use Rattle.messages.specs.declared.body.Body.{Body}
use Rattle.messages.specs.declared.refusal.RefusedRequest.{RefusedRequest}
use Rattle.messages.specs.declared.refusal.RefusedRequest.TheVariants as asks
use Rattle.messages.specs.declared.refusal.Reason.{Reason}
use Rattle.messages.specs.declared.refusal.Reason.TheVariants as reasons
use Rattle.server_core.specs.declared.machine.stage.StagePlan.{StagePlan}
use Rattle.server_core.specs.declared.machine.verify.VerifyPlan.{VerifyPlan}
use Rattle.server_core.specs.Framed.{frames_to_client}
use Rattle.fc_base.specs.Fault.{number_of}
use Rattle.job_file.specs.declared.fault.JobFault.{JobFault}
use Rattle.job_file.specs.declared.fault.JobFault.TheVariants as job_faults
use Rattle.job_file.specs.Fault.{fault_of}
use Rattle.job_file.specs.declared.job.Job.{Job}
use Rattle.job_file.specs.declared.job.Phase.{Phase}
use Rattle.server_core.specs.Texts.{jobs_for}
use Rattle.server_core.specs.Request.{Request}
use Rattle.server_core.specs.Replies.{progress_frame, check_frames, Now}
use Rattle.server_core.specs.Check.{Check, Progress, new_check}
use Rattle.server_core.specs.Answers.{refusal_of}
use Rattle.server_core.specs.Stands.{OpenIs}

-- Accepted, unless there is a reason to refuse it.
abbrev pub ok_unless_refused : Option Fault → Result (Unit {0}) Fault
ok_unless_refused None = Ok tt
ok_unless_refused (Some fault) = Err fault

-- An answer to a request: it isn't refused, or memory ran out, or it is refused for that reason.
abbrev pub IsAnswer : {A : Type 0} → Now → Request → Result A Fault → Type 0
IsAnswer now x (Ok _) = refusal_of now x ≡ None
IsAnswer now x (Err fault) = (fault ≡ NoMemory) ⊎ (refusal_of now x ≡ Some fault)

-- The request is of a run, and names no attempt.
abbrev pub IsOfRun : RefusedRequest → Type 0
IsOfRun asks.Verify = ⊥
IsOfRun _ = Unit {0}

-- The reason is of a request, and names no job.
abbrev pub IsOfText : Reason → Type 0
IsOfText reasons.Misfit = ⊥
IsOfText _ = Unit {0}

-- Memory ran out, or this is the number of what is wrong with the text.
abbrev pub LacksJobs : Phase → List ℕ → Result (List Job) Fault → Type 0
LacksJobs phase text (Ok jobs) = Unit {0}
LacksJobs phase text (Err fault) =
    (fault ≡ NoMemory) ⊎ (jobs_for phase text ≡ Err (number_of fault))

-- These frames are sent, and nothing is staged.
abbrev pub frames_without_staging : Result (List (List ℕ)) AllocError → Result StagePlan Fault
frames_without_staging (Ok frames) = Ok (record { frames = frames; new = None })
frames_without_staging (Err _) = Err NoMemory

-- What is wrong with a text, as a server tells it: its own want of memory is no fault of the text.
abbrev pub fault_of_text : JobFault → Fault
fault_of_text job_faults.NoMemory = NoMemory
fault_of_text fault = fault_of fault

-- What is said of a job of the open check that is so far; nothing, where none is open.
abbrev pub frame_now : ℕ → Progress → Option Check → List Body
frame_now j p None = []
frame_now j p (Some c) = progress_frame c j p

-- These frames are sent, and no check is opened.
abbrev pub frames_without_check : Result (List (List ℕ)) AllocError → Result VerifyPlan Fault
frames_without_check (Ok frames) = Ok (record { frames = frames; new = None })
frames_without_check (Err _) = Err NoMemory

-- What is said of the open check, where there is one.
abbrev pub checked_again : Option Check → List Body
checked_again None = []
checked_again (Some c) = check_frames c

-- A check of these jobs is opened, and told.
pub record Opened (me now_boot r a : ℕ) (jobs : List Job) (v : VerifyPlan) : Type 0 where
  pub check_is : OpenIs me now_boot v.new (new_check me now_boot r a (Ok jobs))
  pub frames_are : v.frames ≡ frames_to_client me
      (checked_again (new_check me now_boot r a (Ok jobs)))

-- An answer, where want of memory is told as a fault.
abbrev pub lacks : Result (List (List ℕ)) AllocError → Result (List (List ℕ)) Fault
lacks (Ok frames) = Ok frames
lacks (Err _) = Err NoMemory
