-- What the program answers to the two texts of a live run.
use Rattle.std.specs.Prelude.{◌≡◌, ◌⊎◌, ◌<◌, ◌≤◌, ℕ, Bool, true, false, nat_lt, if◌then◌else◌, List, [], ◌∷◌, ◌++◌, length, Option, Some, None, codes, decimal}
use Rattle.std.specs.List.{flat_map, list_any}
use Rattle.fc_base.specs.declared.fault.Fault.TheVariants.{JobTooLong, JobNoMemory, WrongPhase, ReadError, Misfit, Unlike}
use Rattle.fc_base.specs.Fault.{number_of, name_of}
use Rattle.fc_base.specs.declared.report.ReportParts.{ReportParts}
use Rattle.job_file.specs.declared.job.Phase.{Phase}
use Rattle.job_file.specs.declared.job.Phase.TheVariants.{Write, Read}
use Rattle.job_file.specs.JobSet.{refusal_of, phase_in}
use Rattle.program_io.specs.Reports.{report_words}
use Rattle.fleet_threads.specs.declared.fault.FleetFault.{FleetFault}
use Rattle.fleet_threads.specs.declared.fault.FleetFault.TheVariants.{Refused}
use Rattle.node_threads.specs.declared.ends.CheckEnd.{CheckEnd}
use Rattle.node_threads.specs.Heard.{AreOfOneRun}
use Rattle.commands.specs.declared.live.TheConstants.{MAX_INPUT}
use Rattle.program_io.specs.declared.refusal.PrintedRefusal.{PrintedRefusal}
use Rattle.program_io.specs.Words.{with_blanks_between, with_line_feed, Finishes}
use Rattle.program_io.specs.Refusals.{plain, refusal_line, RefusesText}
use Rattle.commands.specs.Texts.{AreTexts}

-- The words of what came of a job: its report, or that its state doesn't fit.
abbrev pub end_words : CheckEnd → Option ReportParts → List (List ℕ)
end_words end (Some report) =
    codes "report" ∷ decimal end.server ∷ decimal end.job ∷ report_words report
end_words end None = codes "refused" ∷ decimal end.server ∷ decimal end.job ∷ decimal
    (number_of Misfit) ∷ name_of Misfit ∷ []

-- The line of what came of a job.
abbrev pub end_line : CheckEnd → List ℕ
end_line end = with_blanks_between (end_words end end.report)

-- A line for each job.
abbrev pub end_lines : List CheckEnd → List ℕ
end_lines ends = flat_map (λ end. with_line_feed (end_line end)) ends

-- The lines of all jobs, and one that says that all that has happened is one list of events.
abbrev pub ends_text : List CheckEnd → List ℕ
ends_text ends = end_lines ends ++ with_line_feed (codes "assembled")

-- A job whose state doesn't fit has no report.
abbrev pub has_no_report : Option ReportParts → Bool
has_no_report (Some report) = false
has_no_report None = true

-- A report counts faults.
abbrev pub counts_faults : Option ReportParts → Bool
counts_faults (Some report) = nat_lt 0 report.faults
counts_faults None = false

-- Some state doesn't fit.
abbrev pub has_misfit : List CheckEnd → Bool
has_misfit ends = list_any (λ end. has_no_report end.report) ends

-- Some report counts faults.
abbrev pub is_faulty : List CheckEnd → Bool
is_faulty ends = list_any (λ end. counts_faults end.report) ends

-- The exit status: 2 where a state doesn't fit, else 1 where a report has faults, else 0.
abbrev pub ends_status : List CheckEnd → ℕ
ends_status ends = if has_misfit ends then 2 else if is_faulty ends then 1 else 0

-- A fault of a fleet is the one by which it was refused; one that is astray is told as nodes that
-- are unlike.
abbrev pub of_fleet : FleetFault → PrintedRefusal
of_fleet (Refused fault) = plain fault
of_fleet _ = plain Unlike

-- A text has no fault, and its jobs do what they should.
pub record IsSound (phase : Phase) (text : List ℕ) : Type 0 where
  pub sound : refusal_of text ≡ None
  pub does : phase_in text ≡ phase

-- A text has no fault, but its jobs do the other.
pub record IsOfOther (phase : Phase) (text : List ℕ) : Type 0 where
  pub sound : refusal_of text ≡ None
  pub other : phase_in text ≡ phase → ⊥

-- Why a text isn't taken: its first fault; or its jobs do the other; or there was no memory for
-- them.
abbrev pub IsUnfit : Phase → List ℕ → PrintedRefusal → Type 0
IsUnfit phase text refusal =
    RefusesText refusal text
    ⊎ ((IsOfOther phase text × (refusal ≡ plain WrongPhase)) ⊎ (refusal ≡ plain JobNoMemory))

-- Why two texts don't come to a report: the writing text isn't taken; or, where it is sound, the
-- reading text isn't; or, where both are, the fleet that ran them ended with a fault.
abbrev pub IsRefusedFor : List ℕ → List ℕ → PrintedRefusal → Type 0
IsRefusedFor writing reading refusal =
    IsUnfit Write writing refusal
    ⊎ (IsSound Write writing × (IsUnfit Read reading refusal
    ⊎ (IsSound Read reading × ((fault : FleetFault) × (refusal ≡ of_fleet fault)))))

-- Why an input comes to no reports: it couldn't be read, or there was no memory to read it; or it
-- is too long; or else one of its texts, or their run, is refused.
abbrev pub IsLiveRefusal : List ℕ → PrintedRefusal → Type 0
IsLiveRefusal input refusal =
    ((refusal ≡ plain ReadError) ⊎ (refusal ≡ plain JobNoMemory))
    ⊎ (((MAX_INPUT < length input) × (refusal ≡ plain JobTooLong))
    ⊎ ((length input ≤ MAX_INPUT) × ((writing : List ℕ) × (reading : List ℕ)
    × AreTexts input writing reading × IsRefusedFor writing reading refusal)))

-- An input isn't too long, and both of its texts are sound.
pub record HasSoundTexts (input : List ℕ) : Type 0 where
  pub short : length input ≤ MAX_INPUT
  pub writing : List ℕ
  pub reading : List ℕ
  pub texts : AreTexts input writing reading
  pub writes : IsSound Write writing
  pub reads : IsSound Read reading

-- Both texts of an input are sound, and the ends are what the client of a run by them has heard.
pub record RunsTexts (servers : ℕ) (input : List ℕ) (ends : List CheckEnd) : Type 0 where
  pub sound : HasSoundTexts input
  pub are_ends : AreOfOneRun servers sound.writing sound.reading ends

-- The texts have run at so many servers: a line is written for each job that is checked, by server
-- and job, with what the client of that run has heard of it, and the status is theirs.
pub record WritesEnds (servers : ℕ) (input : List ℕ) (old new : Option (List ℕ))
    (status : ℕ) : Type 0 where
  pub ends : List CheckEnd
  pub runs : RunsTexts servers input ends
  pub finishes : Finishes (ends_text ends) (ends_status ends) old new status

-- The one line of a refusal is written, and the status is 2.
pub record WritesRefusal (input : List ℕ) (old new : Option (List ℕ)) (status : ℕ) : Type 0 where
  pub refusal : PrintedRefusal
  pub is_refusal : IsLiveRefusal input refusal
  pub finishes : Finishes (with_line_feed (refusal_line refusal)) 2 old new status

-- What is answered to an input.
abbrev pub AnswersLive : ℕ → List ℕ → Option (List ℕ) → Option (List ℕ) → ℕ → Type 0
AnswersLive servers input old new status =
    WritesEnds servers input old new status ⊎ WritesRefusal input old new status
