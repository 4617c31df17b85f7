use Rattle.std.proofs.Common.{◌≡◌, ◌++◌, take, string_bytes}
use Rattle.commands.specs.Lines.{note_lines}
use Rattle.commands.proofs.lines.push_notes.Given as goal

abbrev pub invariant-loop-note : goal.invariant-loop-note
invariant-loop-note l = string_bytes l.lines ≡ string_bytes l.initial.lines ++ note_lines (take l.note-index l.notes)
