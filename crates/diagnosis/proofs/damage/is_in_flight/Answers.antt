use Rattle.std.proofs.Common.{◌≡◌, ℕ, eqb, length, sym, ap, ◌∙◌, arith}
use Rattle.diagnosis.proofs.DamageLemmas.{found_at, none_found}
use Rattle.diagnosis.proofs.damage.is_in_flight.Goals as goal

pub returns-then-eq : goal.returns-then-eq
returns-then-eq c =
    let same : c.in_flight-write-items.result.now ≡ c.args.expected.now.in_flight = c.in_flight-write-items.ensures in
    sym (found_at (λ (j : ℕ). eqb j c.args.seq) c.args.block c.args.expected.now.in_flight c.loop-write.write-index c.write-item.result
    (omega (arith, c.loop-write-test.true, ap length same))
    (rw (← same) c.write-item.is) c.if-write-block.true (sym c.eq.ensures ∙ c.if-eq.true))

pub returns : goal.returns
returns c =
    let same : c.in_flight-write-items.result.now ≡ c.args.expected.now.in_flight = c.in_flight-write-items.ensures in
    sym (none_found (λ (j : ℕ). eqb j c.args.seq) c.args.block c.args.expected.now.in_flight c.loop-write.write-index
    (omega (arith, c.loop-write-test.false, ap length same)) c.loop-write.invariant)
