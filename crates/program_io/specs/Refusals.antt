-- Refusals, and what is printed of them.
use Rattle.std.specs.Prelude.{◌≡◌, ℕ, List, [], ◌∷◌, Option, Some, None, codes, decimal}
use Rattle.fc_base.specs.declared.fault.Fault.{Fault}
use Rattle.fc_base.specs.declared.fault.Fault.TheVariants as base
use Rattle.fc_base.specs.Fault.{number_of, name_of}
use Rattle.job_file.specs.declared.fault.JobFault.{JobFault}
use Rattle.job_file.specs.Fault.{fault_of, line_or_job_of}
use Rattle.job_file.specs.JobSet.{refusal_of}
use Rattle.program_io.specs.declared.input.InputFault.{InputFault as Unread}
use Rattle.program_io.specs.declared.input.InputFault.TheVariants as unread
use Rattle.program_io.specs.declared.refusal.PrintedRefusal.{PrintedRefusal}
use Rattle.program_io.specs.Words.{with_blanks_between}

-- A fault that has neither a line nor a job.
abbrev pub plain : Fault → PrintedRefusal
plain row = record { fault = row; line_or_job = None }

-- An input that was not read is refused as a job file that could not be read, or had no memory.
abbrev pub of_input : Unread → PrintedRefusal
of_input unread.ReadError = plain base.ReadError
of_input unread.NoMemory = plain base.JobNoMemory

-- A fault of a job file, with its line or its job.
abbrev pub refusal_for : JobFault → PrintedRefusal
refusal_for fault = record { fault = fault_of fault; line_or_job = line_or_job_of fault }

-- The number of a line or job is a word of its own.
abbrev pub number_words : Option ℕ → List (List ℕ)
number_words None = []
number_words (Some number) = decimal number ∷ []

-- The line of a refusal: its number, its name, and its line or job where it has one.
abbrev pub refusal_line : PrintedRefusal → List ℕ
refusal_line refusal =
    with_blanks_between (codes "refused" ∷ decimal (number_of refusal.fault) ∷ name_of refusal.fault
    ∷ number_words refusal.line_or_job)

-- The refusal is that of the first fault of a text.
pub record RefusesText (refusal : PrintedRefusal) (text : List ℕ) : Type 0 where
  pub fault : JobFault
  pub first : refusal_of text ≡ Some fault
  pub refused : refusal ≡ refusal_for fault
