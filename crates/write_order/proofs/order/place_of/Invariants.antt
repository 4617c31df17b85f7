use Rattle.std.proofs.Common.{◌≡◌}
use Rattle.write_order.specs.Ahead.{words_after}
use Rattle.write_order.proofs.order.place_of.Given as goal

abbrev pub invariant-loop : goal.invariant-loop
invariant-loop l = l.words ≡ words_after l.rec.seed l.counter
