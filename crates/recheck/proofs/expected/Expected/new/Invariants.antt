use Rattle.std.proofs.Common.{◌≡◌}
use Rattle.std.specs.Option.{option_copied}
use Rattle.recheck.proofs.ExpectedLemmas.{Gone}
use Rattle.recheck.proofs.expected.Expected.new.Given as goal

abbrev pub invariant-loop-k : goal.invariant-loop-k
invariant-loop-k l = record {
  order : l.order ≡ record { job = l.fn.rec; issued = l.k };
  gone : Gone l.fn.rec (option_copied l.fn.state) l.k l.last.items l.in_flight.items;
}
