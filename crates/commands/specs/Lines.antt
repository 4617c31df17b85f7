-- What is printed of a set of jobs.
use Rattle.std.specs.Prelude.{ℕ, ◌/◌, ◌%◌, Bool, false, List, [], ◌∷◌, ◌++◌, length, Option, Some, None, codes, decimal, if◌then◌else◌}
use Rattle.std.specs.Fmt.{digit_glyph}
use Rattle.std.specs.List.{flat_map, enumerate_from}
use Rattle.fc_base.specs.declared.record.Kind.{Kind}
use Rattle.fc_base.specs.declared.record.Kind.TheVariants.{Sequential, RandomMap, RandomFree}
use Rattle.fc_base.specs.declared.record.Verify.{Verify}
use Rattle.fc_base.specs.declared.record.Verify.TheVariants.{Stamp, Pattern}
use Rattle.job_file.specs.declared.job.Job.{Job}
use Rattle.job_file.specs.declared.job.JobSet.{JobSet}
use Rattle.job_file.specs.declared.job.LineNote.{LineNote}
use Rattle.job_file.specs.declared.job.Phase.{Phase}
use Rattle.job_file.specs.declared.job.Phase.TheVariants.{Read, Write}
use Rattle.program_io.specs.Words.{with_blanks_between, with_line_feed}

-- The order in which a job writes its blocks.
abbrev pub order_word : Kind → List ℕ
order_word Sequential = codes "sequential"
order_word RandomMap = codes "random"
order_word RandomFree = codes "norandommap"

-- Whether jobs write, or read and check.
abbrev pub phase_word : Phase → List ℕ
phase_word Write = codes "write"
phase_word Read = codes "read"

-- A byte as two lower-case hexadecimal digits.
abbrev pub hex_digits : ℕ → List ℕ
hex_digits byte = digit_glyph false (byte / 16) ∷ digit_glyph false (byte % 16) ∷ []

-- What is verified: stamps, or the byte of a pattern.
abbrev pub verify_word : Verify → ℕ → List ℕ
verify_word Stamp pattern = codes "stamp"
verify_word Pattern pattern = codes "0x" ++ hex_digits pattern

-- A switch that is on is 1, and one that is off is 0.
abbrev pub switch_digit : Bool → ℕ
switch_digit on = if on then 1 else 0

-- The label of a job's file, or `-` where it has none.
abbrev pub file_label : Option (List ℕ) → List ℕ
file_label None = codes "-"
file_label (Some filename) = filename

-- The line of a job by its number.
abbrev pub job_line : ℕ → Job → List ℕ
job_line number job = with_blanks_between (
    codes "job"
    ∷ decimal number
    ∷ job.name
    ∷ order_word job.rec.kind
    ∷ (codes "blocks=" ++ decimal job.rec.blocks)
    ∷ (codes "total=" ++ decimal job.rec.total)
    ∷ (codes "bs=" ++ decimal job.rec.bs)
    ∷ (codes "seed=" ++ decimal job.rec.seed)
    ∷ (codes "depth=" ++ decimal job.rec.depth)
    ∷ (codes "window=" ++ decimal job.rec.window)
    ∷ (codes "verify=" ++ verify_word job.rec.verify job.rec.pattern)
    ∷ (codes "save=" ++ decimal (switch_digit job.save))
    ∷ (codes "load=" ++ decimal (switch_digit job.load))
    ∷ (codes "fatal=" ++ decimal (switch_digit job.fatal))
    ∷ (codes "file=" ++ file_label job.filename)
    ∷ [])

-- The line of a note.
abbrev pub note_line : LineNote → List ℕ
note_line note = with_blanks_between
    (codes "note" ∷ decimal note.line ∷ note.option ∷ codes "has no effect here" ∷ [])

-- The lines of jobs, numbered from 0.
abbrev pub job_lines : List Job → List ℕ
job_lines jobs =
    flat_map (λ (number, job). with_line_feed (job_line number job)) (enumerate_from 0 jobs)

-- The lines of notes.
abbrev pub note_lines : List LineNote → List ℕ
note_lines notes = flat_map (λ n. with_line_feed (note_line n)) notes

-- The last line: how many jobs there are, and what they do.
abbrev pub count_line : JobSet → List ℕ
count_line set = with_blanks_between
    (codes "jobs" ∷ decimal (length set.jobs) ∷ codes "phase" ∷ phase_word set.phase ∷ [])

-- All lines of a set: those of its notes, those of its jobs, and the count.
abbrev pub set_lines : JobSet → List ℕ
set_lines set = note_lines set.notes ++ (job_lines set.jobs ++ with_line_feed (count_line set))
