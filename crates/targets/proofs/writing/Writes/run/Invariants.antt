use Rattle.std.proofs.Common.{◌≡◌, ℕ, List}
use Rattle.std.specs.Prelude.{Option}
use Rattle.std.specs.Io.Buffered.{reader_remaining}
use Rattle.targets.specs.Writing.{steps_left, SoFar}
use Rattle.targets.proofs.writing.Writes.run.Given as goal

-- Whatever was so far, the run has gone on from there.
abbrev pub invariant-loop-end : goal.invariant-loop-end
invariant-loop-end g l = record {
  so_far : (first_input first_text : Option (List ℕ))
      → SoFar l.initial.self.engine first_input (reader_remaining g.R.Read.remaining l.initial.reader) first_text (g.W.Write.contents l.initial.writer)
      → SoFar l.self.engine first_input (reader_remaining g.R.Read.remaining l.reader) first_text (g.W.Write.contents l.writer);
  origin : l.self.engine.origin ≡ l.initial.self.engine.origin;
}

abbrev pub decreases-loop-end : goal.decreases-loop-end
decreases-loop-end g l = steps_left l.self.engine
