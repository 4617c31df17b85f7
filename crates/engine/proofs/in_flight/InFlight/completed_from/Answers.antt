use Rattle.std.proofs.Common.{arith, rules}
use Rattle.engine.proofs.FlightLemmas.{none_completed, completed_word}
use Rattle.engine.proofs.in_flight.InFlight.completed_from.Goals as goal

pub returns-then-first-self : goal.returns-then-first-self
returns-then-first-self c =
    let i = c.self.inside in
    rw (← c.self.view_is) (none_completed i.marks i.window i.issued c.args.first (omega arith))

pub returns : goal.returns
returns c =
    let i = c.self.inside in
    let flying = rw c.slot-slot.ensures.value at c.around-flying.ensures in
    let near = rw (← c.self.view_is) at c.requires in
    rw (← c.self.view_is) (completed_word i.marks i.window i.issued c.args.first c.around-flying.result c.low_bits.result (search rules) (search rules) near
    (omega arith) flying c.low_bits.ensures)
