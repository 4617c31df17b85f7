use Rattle.std.proofs.Common.{◌≤◌, length, List}
use Rattle.disk_model.specs.MemNotes.{note_of}
use Rattle.server_core.specs.Answers.{shown_entries}
use Rattle.server_core.specs.FrameEnds.{StandsFor}
use Rattle.server_core.specs.Hearing.{FrameEntry, packets_heard}
use Rattle.server_core.specs.History.{Opening}
use Rattle.node_threads.specs.Ends.{jobs_checked}
use Rattle.node_threads.proofs.ends.count_of.Given as goal

abbrev pub invariant-loop-job : goal.invariant-loop-job
invariant-loop-job l =
    (o : Opening) (past : List FrameEntry) → StandsFor note_of l.core o past → l.job ≤ length (jobs_checked o (shown_entries (packets_heard o past)))
