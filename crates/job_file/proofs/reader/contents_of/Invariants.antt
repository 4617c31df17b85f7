use Rattle.std.proofs.Common.{◌≡◌, ◌+◌, ◌≤◌, ◌++◌, false, length}
use Rattle.fc_base.specs.declared.limits.TheConstants.{MAX_TEXT}
use Rattle.job_file.specs.JobSet.{line_faults, notes_from}
use Rattle.job_file.specs.Line.{lines_of}
use Rattle.job_file.specs.Reader.{is_inside, drafts_coming, drafts_with}
use Rattle.job_file.specs.Settings.{none_set}
use Rattle.job_file.proofs.reader.contents_of.Given as goal

-- The lines so far had no fault, and with the others behind them the text comes to its faults, jobs and notes.
abbrev pub invariant-loop-rest : goal.invariant-loop-rest
invariant-loop-rest l = record {
  faults : line_faults l.number (is_inside l.reader.scope) (lines_of l.rest) ≡ line_faults 1 false (lines_of l.text);
  drafts : drafts_coming l.reader (lines_of l.rest) ≡ drafts_with none_set (lines_of l.text);
  notes : l.reader.notes.items ++ notes_from l.number (lines_of l.rest) ≡ notes_from 1 (lines_of l.text);
  numbers : l.number + length l.rest ≤ MAX_TEXT + 1;
}

abbrev pub decreases-loop-rest : goal.decreases-loop-rest
decreases-loop-rest l = length l.rest
