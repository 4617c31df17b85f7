use Rattle.std.specs.Io.Buffered.{reader_remaining}
use Rattle.targets.specs.Touring.{SoFar}
use Rattle.targets.proofs.tour.tour_blocks.Given as goal

-- So many words were read and done.
abbrev pub invariant-loop : goal.invariant-loop
invariant-loop g l =
    SoFar l.fn.number l.fn.rec l.tour l.counter (reader_remaining g.R.Read.remaining l.initial.reader) (reader_remaining g.R.Read.remaining l.reader)
    (g.W.Write.contents l.initial.writer) (g.W.Write.contents l.writer)
