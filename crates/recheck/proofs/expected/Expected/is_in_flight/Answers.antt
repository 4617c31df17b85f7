use Rattle.std.proofs.Common.{◌≡◌, length, sym, ap, ◌∙◌, arith}
use Rattle.recheck.specs.Faults.{is_write}
use Rattle.recheck.proofs.ExpectedLemmas.{found_at, none_found}
use Rattle.recheck.proofs.expected.Expected.is_in_flight.Goals as goal

pub returns-then-is_write : goal.returns-then-is_write
returns-then-is_write c =
    let same : c.deref-write-items.result.now ≡ c.args.self.now.in_flight = c.deref-write-items.ensures.value ∙ ap (λ e. e.in_flight) c.self.view_is in
    sym (found_at (is_write c.args.self.now c.args.block c.args.bytes.now) c.args.block c.args.self.now.in_flight c.loop-write.write-index c.write-item.result
    (omega (arith, c.loop-write-test.true, ap length same))
    (rw (← same) c.write-item.is) c.if-write-block.true (sym c.is_write.ensures ∙ c.if-is_write.true))

pub returns : goal.returns
returns c =
    let same : c.deref-write-items.result.now ≡ c.args.self.now.in_flight = c.deref-write-items.ensures.value ∙ ap (λ e. e.in_flight) c.self.view_is in
    sym (none_found (is_write c.args.self.now c.args.block c.args.bytes.now) c.args.block c.args.self.now.in_flight c.loop-write.write-index
    (omega (arith, c.loop-write-test.false, ap length same)) c.loop-write.invariant)
