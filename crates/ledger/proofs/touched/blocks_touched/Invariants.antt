use Rattle.std.proofs.Common.{◌≡◌, map}
use Rattle.std.specs.List.{range_with_len}
use Rattle.ledger.proofs.TouchedLemmas.{touched_by}
use Rattle.ledger.proofs.touched.blocks_touched.Given as goal

abbrev pub invariant-loop : goal.invariant-loop
invariant-loop l = record {
  order : l.order ≡ record { job = l.fn.rec; issued = l.counter };
  touched : l.touched.items ≡ map (touched_by l.fn.rec l.counter) (range_with_len 0 l.fn.blocks);
}
