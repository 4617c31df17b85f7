-- What the lines of a job file say.
use Rattle.std.specs.Prelude.{ℕ, ◌-◌, Bool, ◌&&◌, ◌||◌, not, ◌==◌, nat_eq, nat_lt, nat_le, List, length}
use Rattle.std.specs.Prelude.{take, drop, map, Option, Some, None, bytes_eq, codes, if◌then◌else◌}
use Rattle.std.specs.List.{list_all, list_any, before_first, after_first, starts_with, ends_with}
use Rattle.std.specs.Char.{is_ascii_alphanumeric}
use Rattle.std.specs.Str.Lines.{lines}
use Rattle.job_file.specs.declared.line.Line.{Line}
use Rattle.job_file.specs.declared.line.Line.TheVariants.{Blank, Global, Job, Set, Ignored, Faulty}
use Rattle.job_file.specs.declared.line.LineFault.TheVariants.{BadLine, UnknownOption, BadValue}
use Rattle.job_file.specs.declared.option.OptionName.{OptionName}
use Rattle.job_file.specs.declared.option.Setting.{Setting}
use Rattle.job_file.specs.Bytes.{is_text_byte, trimmed}
use Rattle.job_file.specs.Setting.{option_named, is_ignored, setting_of}

-- A line is skipped where it is empty or begins with `;` or `#`.
abbrev pub is_skipped : List ℕ → Bool
is_skipped line =
    length line == 0 || starts_with nat_eq line (codes ";") || starts_with nat_eq line (codes "#")

-- A character of a section's name: any of the text, but no bracket.
abbrev pub is_section_byte : ℕ → Bool
is_section_byte b = is_text_byte b && not (b == 91) && not (b == 93)

-- A section's name has 1 to 64 characters.
abbrev pub is_section_name : List ℕ → Bool
is_section_name name =
    nat_le 1 (length name) && nat_le (length name) 64 && list_all is_section_byte name

-- The section of a name: `global` is a word of its own.
abbrev pub section_named : List ℕ → Line
section_named name =
    if not (is_section_name name) then Faulty BadLine else (
    if bytes_eq name (codes "global") then Global else Job name)

-- A section's line, from behind its opening bracket: the name, and the closing bracket.
abbrev pub section_of : List ℕ → Line
section_of rest =
    if ends_with nat_eq rest (codes "]") then section_named (take (length rest - 1) rest)
    else Faulty BadLine

-- A character of an option's name.
abbrev pub is_option_byte : ℕ → Bool
is_option_byte b = is_ascii_alphanumeric b || b == 95

-- An option's name has letters, digits and `_`, at least one.
abbrev pub is_option_name : List ℕ → Bool
is_option_name name = nat_lt 0 (length name) && list_all is_option_byte name

-- The sign between an option's name and its value.
abbrev pub is_equals : ℕ → Bool
is_equals b = b == 61

-- What stands before the first `=`, or the whole line.
abbrev pub name_in : List ℕ → List ℕ
name_in line = trimmed (before_first is_equals line)

-- What stands behind the first `=`.
abbrev pub value_in : List ℕ → Option (List ℕ)
value_in line =
    if list_any is_equals line then Some (trimmed (after_first is_equals line)) else None

-- A setting, where the option takes the value.
abbrev pub with_setting : Option Setting → Line
with_setting None = Faulty BadValue
with_setting (Some setting) = Set setting

-- An option that is known, with the value behind it.
abbrev pub with_option : Option OptionName → Option (List ℕ) → Line
with_option None value = Faulty UnknownOption
with_option (Some option) value = with_setting (setting_of option value)

-- An option's line: a name, or a name, `=` and a value.
abbrev pub option_of : List ℕ → Line
option_of line =
    if not (is_option_name (name_in line)) then Faulty BadLine else (
    if is_ignored (name_in line) then Ignored (name_in line)
    else with_option (option_named (name_in line)) (value_in line))

-- What a line says that has no blanks at its ends.
abbrev pub content_of : List ℕ → Line
content_of line =
    if is_skipped line then Blank else (
    if starts_with nat_eq line (codes "[") then section_of (drop 1 line) else option_of line)

-- What a line says.
abbrev pub line_of : List ℕ → Line
line_of line = content_of (trimmed line)

-- The lines of a text.
abbrev pub lines_of : List ℕ → List Line
lines_of text = map line_of (lines text)
