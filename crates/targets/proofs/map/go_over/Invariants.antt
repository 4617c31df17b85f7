use Rattle.std.specs.Prelude.{◌≤◌}
use Rattle.targets.specs.MapKinds.{all_lines}
use Rattle.targets.specs.Mapping.{GoesOn}
use Rattle.targets.proofs.MapLemmas.{HasMapped}
use Rattle.targets.proofs.map.go_over.Given as goal

abbrev pub invariant-loop-block : goal.invariant-loop-block
invariant-loop-block g l = record {
  goes_on : GoesOn l.fn.map.check.expected l.map l.block;
  few : all_lines l.kinds ≤ l.block;
  mapped : HasMapped l.unit l.fn.map.check.expected l.map.check l.map.unread l.kinds l.block (g.R.Read.remaining l.fn.reader) (g.R.Read.remaining l.reader)
      (g.W.Write.contents l.fn.writer) (g.W.Write.contents l.writer);
}
