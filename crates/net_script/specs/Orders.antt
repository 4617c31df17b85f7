-- What a script asks for, in its order.
use Rattle.std.specs.Prelude.{ℕ, ◌+◌, Bool, true, false, not, List, [], ◌∷◌, ◌++◌, length, bytes_eq, codes, if◌then◌else◌}
use Rattle.std.specs.List.{list_any, before_first, flat_map}
use Rattle.program_io.specs.Words.{with_line_feed}
use Rattle.net_world.specs.Setup.{Setup, setup_of}
use Rattle.net_script.specs.declared.command.Saving.{Saving}
use Rattle.net_script.specs.declared.command.Saving.TheVariants.{Begin, Verify}
use Rattle.net_script.specs.declared.command.Command.{Command}
use Rattle.net_script.specs.declared.command.Command.TheVariants.{Saves, CutShort}
use Rattle.net_script.specs.declared.line.ScriptLine.{ScriptLine}
use Rattle.net_script.specs.declared.line.ScriptLine.TheVariants as lines
use Rattle.net_script.specs.Words.{lines_of}
use Rattle.net_script.specs.Table.{line_of}

-- An order, with the number of its line: a world of this setup; a command, with its text if it has
-- one; or a bad line, by the number that is printed.
pub data Order : Type 0 where
  Opens : ℕ → Setup → Order
  Asks : ℕ → Command → List ℕ → Order
  Fails : ℕ → ℕ → Order

-- The line that closes a text.
abbrev pub closes : List ℕ → Bool
closes line = bytes_eq line (codes ".")

-- The text of the lines before the one that closes it.
abbrev pub text_in : List (List ℕ) → List ℕ
text_in below = flat_map with_line_feed (before_first closes below)

-- `begin` and `verify` have a text below them.
abbrev pub has_text_in : Saving → Bool
has_text_in Begin = true
has_text_in (Verify run) = true
has_text_in _ = false

-- A text stands below the command.
abbrev pub has_text : Command → Bool
has_text (Saves command) = has_text_in command
has_text (CutShort landed command) = has_text_in command
has_text _ = false

-- A text stands below the line.
abbrev pub opens_text : ScriptLine → Bool
opens_text (lines.Asks command) = has_text command
opens_text _ = false

-- A command with the text of the lines below it. Where that isn't closed the line is bad, by the
-- number of the last line.
abbrev pub with_text : ℕ → Command → List (List ℕ) → Order
with_text number command below =
    if list_any closes below then Asks number command (text_in below)
    else Fails number (number + length below)

-- The order of a line with this number, above these lines.
abbrev pub order_of : ℕ → ScriptLine → List (List ℕ) → List Order
order_of number lines.Skipped below = []
order_of number (lines.Servers config) below = Opens number (setup_of config) ∷ []
order_of number (lines.Asks command) below =
    (if has_text command then with_text number command below else Asks number command []) ∷ []
order_of number lines.Unread below = Fails number number ∷ []

-- The orders of lines, numbered on from a number: those of a text give none, up to the one that
-- closes it.
abbrev pub orders_from : ℕ → Bool → List (List ℕ) → List Order
orders_from number inside [] = []
orders_from number true (line ∷ below) = orders_from (number + 1) (not (closes line)) below
orders_from number false (line ∷ below) =
    order_of number (line_of line) below
    ++ orders_from (number + 1) (opens_text (line_of line)) below

-- The orders of a script.
unfoldable pub orders_of : List ℕ → List Order
orders_of script = orders_from 1 false (lines_of script)
