-- The set of jobs of a text, or its first fault.
use Rattle.std.specs.Prelude.{◌≡◌, ◌⊎◌, ℕ, ◌+◌, Bool, true, false, ◌&&◌, ◌||◌, not, ◌==◌, nat_lt, List, [], ◌∷◌}
use Rattle.std.specs.Prelude.{◌++◌, length, bytes_eq, Option, Some, None, Result, Ok, Err, slice_get, if◌then◌else◌}
use Rattle.std.specs.List.{list_all, list_any}
use Rattle.fc_base.specs.declared.limits.TheConstants.{MAX_JOBS, MAX_TEXT}
use Rattle.job_file.specs.declared.fault.JobFault.{JobFault}
use Rattle.job_file.specs.declared.fault.JobFault.TheVariants.{TooLong, NotAscii, BadLine, UnknownOption, BadValue}
use Rattle.job_file.specs.declared.fault.JobFault.TheVariants.{NoJobs, TooManyJobs, SharedFile, MixedPhases, NoMemory}
use Rattle.job_file.specs.declared.job.Job.{Job}
use Rattle.job_file.specs.declared.job.JobSet.{JobSet}
use Rattle.job_file.specs.declared.job.LineNote.{LineNote}
use Rattle.job_file.specs.declared.job.Phase.{Phase}
use Rattle.job_file.specs.declared.job.Phase.TheVariants.{Read, Write}
use Rattle.job_file.specs.declared.line.Line.{Line}
use Rattle.job_file.specs.declared.line.Line.TheVariants as line
use Rattle.job_file.specs.declared.line.LineFault.{LineFault}
use Rattle.job_file.specs.declared.line.LineFault.TheVariants as broken
use Rattle.job_file.specs.declared.draft.Draft.{Draft}
use Rattle.job_file.specs.Bytes.{is_text_byte}
use Rattle.job_file.specs.Line.{lines_of}
use Rattle.job_file.specs.Section.{drafts_of}
use Rattle.job_file.specs.Draft.{writes, count_of, with_copies, jobs_from, faults_from}
use Rattle.job_file.specs.Fault.{when}

-- A text has at most 16,384 bytes, all of them bytes of a text.
abbrev pub byte_faults : List ℕ → List JobFault
byte_faults text =
    when (nat_lt MAX_TEXT (length text)) TooLong ++ when (not (list_all is_text_byte text)) NotAscii

-- The fault of a line, by its number.
abbrev pub fault_at : ℕ → LineFault → JobFault
fault_at number broken.BadLine = BadLine number
fault_at number broken.UnknownOption = UnknownOption number
fault_at number broken.BadValue = BadValue number

-- The faults of a line: before the first section any option is one.
abbrev pub faults_in : ℕ → Bool → Line → List JobFault
faults_in number inside (line.Set setting) = when (not inside) (BadLine number)
faults_in number inside (line.Ignored name) = when (not inside) (BadLine number)
faults_in number inside (line.Faulty fault) =
    (if inside then fault_at number fault else BadLine number) ∷ []
faults_in number inside _ = []

-- The line opens a section.
abbrev pub opens : Line → Bool
opens line.Global = true
opens (line.Job name) = true
opens _ = false

-- The faults of lines, numbered on from a number, inside a section or before the first.
abbrev pub line_faults : ℕ → Bool → List Line → List JobFault
line_faults number inside [] = []
line_faults number inside (l ∷ ls) =
    faults_in number inside l ++ line_faults (number + 1) (inside || opens l) ls

-- A line whose option has no effect gives a note.
abbrev pub note_in : ℕ → Line → List LineNote
note_in number (line.Ignored name) = record { line = number; option = name } ∷ []
note_in number _ = []

-- The notes of lines, numbered on from a number.
abbrev pub notes_from : ℕ → List Line → List LineNote
notes_from number [] = []
notes_from number (l ∷ ls) = note_in number l ++ notes_from (number + 1) ls

-- There are 1 to 16 jobs.
abbrev pub count_faults : List Draft → List JobFault
count_faults drafts =
    when (count_of drafts == 0) NoJobs ++ when (nat_lt MAX_JOBS (count_of drafts)) TooManyJobs

-- Two jobs that have a file have the same one.
abbrev pub same_file : Option (List ℕ) → Option (List ℕ) → Bool
same_file None other = false
same_file (Some name) None = false
same_file (Some name) (Some other) = bytes_eq name other

-- An earlier job has the file of this one.
abbrev pub shares_file : List Job → Job → Bool
shares_file earlier job = list_any (λ other. same_file other.filename job.filename) earlier

-- The jobs whose file an earlier job has, with the jobs that stand before them.
abbrev pub file_faults : List Job → List Job → List JobFault
file_faults earlier [] = []
file_faults earlier (j ∷ js) = when (shares_file earlier j) (SharedFile (length earlier))
    ++ file_faults (earlier ++ j ∷ []) js

-- Some of the jobs write.
abbrev pub some_write : List Draft → Bool
some_write drafts = list_any (λ d. writes d.settings) drafts

-- Some of the jobs read.
abbrev pub some_read : List Draft → Bool
some_read drafts = list_any (λ d. not (writes d.settings)) drafts

-- Not some jobs write and some read.
abbrev pub phase_faults : List Draft → List JobFault
phase_faults drafts =
    when (some_write drafts && some_read drafts) MixedPhases

-- The faults of the jobs as a whole and one by one.
abbrev pub set_faults : List Draft → List JobFault
set_faults drafts =
    count_faults drafts ++ (faults_from 0 (with_copies drafts)
    ++ (file_faults [] (jobs_from 0 (with_copies drafts)) ++ phase_faults drafts))

-- All faults of a text, in the order in which they are looked for.
abbrev pub faults_of : List ℕ → List JobFault
faults_of text =
    byte_faults text ++ (line_faults 1 false (lines_of text)
    ++ set_faults (drafts_of (lines_of text)))

-- The jobs write where one of them does.
abbrev pub phase_of : List Draft → Phase
phase_of drafts = if some_write drafts then Write else Read

-- The jobs of a text, faulty or not, numbered from 0.
abbrev pub jobs_of : List ℕ → List Job
jobs_of text = jobs_from 0 (with_copies (drafts_of (lines_of text)))

-- The phase of a text's jobs.
abbrev pub phase_in : List ℕ → Phase
phase_in text = phase_of (drafts_of (lines_of text))

-- The first fault of a text, or none where it has none.
abbrev pub refusal_of : List ℕ → Option JobFault
refusal_of text = slice_get (faults_of text) 0

-- The set is that of the text.
pub record IsSetOf (set : JobSet) (text : List ℕ) : Type 0 where
  pub phase : set.phase ≡ phase_in text
  pub jobs : set.jobs ≡ jobs_of text
  pub notes : set.notes ≡ notes_from 1 (lines_of text)

-- A text without faults gives its set, and any other its first fault, unless memory ran out.
abbrev pub Answers : Result JobSet JobFault → List ℕ → Type 0
Answers (Ok set) text = (refusal_of text ≡ None) × IsSetOf set text
Answers (Err fault) text = (fault ≡ NoMemory) ⊎ (refusal_of text ≡ Some fault)
