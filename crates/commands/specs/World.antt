-- What the program answers to a script.
use Rattle.std.specs.Prelude.{◌⊎◌, ℕ, List, Option}
use Rattle.fc_base.specs.declared.fault.Fault.{Fault}
use Rattle.fc_base.specs.declared.fault.Fault.TheVariants.{ReadError, NoMemory}
use Rattle.net_script.specs.declared.script_fault.ScriptFault.{ScriptFault}
use Rattle.net_script.specs.declared.script_fault.ScriptFault.TheVariants as unread
use Rattle.net_script.specs.Runs.{HasRun}
use Rattle.program_io.specs.Words.{with_line_feed, Finishes}
use Rattle.program_io.specs.Refusals.{plain, refusal_line}

-- A script that was not read: the one line of this refusal is written.
abbrev pub RefusesScript : Fault → Option (List ℕ) → Option (List ℕ) → ℕ → Type 0
RefusesScript fault old new status =
    Finishes (with_line_feed (refusal_line (plain fault))) 2 old new status

-- Why a script has no status is told by its own fault: that it could not be read, or that there was
-- no memory for it. A write that failed is not told.
abbrev pub RefusesUnread : ScriptFault → Option (List ℕ) → Option (List ℕ) → ℕ → Type 0
RefusesUnread unread.ReadError old new status = RefusesScript ReadError old new status
RefusesUnread unread.NoMemory old new status = RefusesScript NoMemory old new status
RefusesUnread unread.WriteError old new status = ⊥

-- The script has run; or it could not be read, or there was no memory for it.
abbrev pub AnswersScript : List ℕ → Option (List ℕ) → Option (List ℕ) → ℕ → Type 0
AnswersScript script old new status =
    HasRun script old new status
    ⊎ (RefusesScript ReadError old new status ⊎ RefusesScript NoMemory old new status)
