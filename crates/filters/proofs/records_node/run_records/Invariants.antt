use Rattle.std.specs.Io.Buffered.{reader_remaining}
use Rattle.filters.specs.Steps.{SoFar}
use Rattle.filters.proofs.records_node.run_records.Given as goal

-- As many records as turns were read and answered.
abbrev pub invariant-loop : goal.invariant-loop
invariant-loop g l =
    (begin : _) → SoFar (g.N.RecordsNode.filter begin).Takes (g.N.RecordsNode.StandsAt l.initial.node) (g.N.RecordsNode.StandsAt l.node)
    (reader_remaining g.R.Read.remaining l.initial.reader) (reader_remaining g.R.Read.remaining l.reader)
    (g.W.Output.written l.initial.writer) (g.W.Output.written l.writer) l.counter
