-- What the program answers to a text.
use Rattle.std.specs.Prelude.{◌≡◌, ◌⊎◌, ℕ, List, Option, None, Result, Ok, Err}
use Rattle.std.specs.Io.KnownBytes.{Appends}
use Rattle.fc_base.specs.declared.fault.Fault.TheVariants.{JobNoMemory, ReadError}
use Rattle.job_file.specs.declared.job.JobSet.{JobSet}
use Rattle.job_file.specs.JobSet.{refusal_of, IsSetOf}
use Rattle.program_io.specs.declared.refusal.PrintedRefusal.{PrintedRefusal}
use Rattle.program_io.specs.Words.{with_line_feed}
use Rattle.commands.specs.Lines.{set_lines}
use Rattle.program_io.specs.Refusals.{plain, refusal_line, RefusesText}

-- The text has no fault, and these are the lines of its set.
pub record AreLinesOf (lines : List ℕ) (text : List ℕ) : Type 0 where
  pub sound : refusal_of text ≡ None
  pub set : JobSet
  pub is_set : IsSetOf set text
  pub printed : lines ≡ set_lines set

-- Why there are no lines: the text's first fault, a failed read, or no memory.
abbrev pub IsRefusalOf : PrintedRefusal → List ℕ → Type 0
IsRefusalOf refusal text =
    RefusesText refusal text ⊎ ((refusal ≡ plain ReadError) ⊎ (refusal ≡ plain JobNoMemory))

-- The answer to an input with this text: the lines of its set, or why there are none.
abbrev pub AnswersText : {X : Type 0} → (X → List ℕ) → Result X PrintedRefusal → List ℕ → Type 0
AnswersText bytes (Ok lines) text = AreLinesOf (bytes lines) text
AnswersText bytes (Err refusal) text = IsRefusalOf refusal text

-- The lines of the text's set have been written behind what the writer held.
pub record WritesLinesOf (text : List ℕ) (old new : Option (List ℕ)) : Type 0 where
  pub lines : List ℕ
  pub are_lines : AreLinesOf lines text
  pub written : Appends old new lines

-- The one line of a refusal of the text has been written behind what the writer held.
pub record WritesRefusalOf (text : List ℕ) (old new : Option (List ℕ)) : Type 0 where
  pub refusal : PrintedRefusal
  pub is_refusal : IsRefusalOf refusal text
  pub written : Appends old new (with_line_feed (refusal_line refusal))
