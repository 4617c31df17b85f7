use Rattle.std.proofs.Common.{◌%◌, ◌&&◌, sym, ap, ◌∙◌}
use Rattle.fc_base.specs.Counted.{has}
use Rattle.fc_base.specs.Marks.{is_marked}
use Rattle.engine.specs.InFlight.{Flights}
use Rattle.engine.proofs.FlightLemmas.{has_open}
use Rattle.engine.proofs.in_flight.InFlight.is_open.Goals as goal

pub returns-then-has : goal.returns-then-has
returns-then-has c =
    let i = c.self.inside in
    let k = c.seq.inside.0 in
    let flying = ap (λ (f : Flights). has f.in_flight k) c.self.view_is ∙ ap (has c.args.self.now.in_flight) c.seq.view_is ∙ sym c.has.ensures
    ∙ c.if-has.true in
    rw (← c.self.view_is, ← c.seq.view_is) (c.has-then-has.ensures ∙ ap (is_marked i.open_marks) c.slot.ensures.value
    ∙ sym (has_open i.marks i.open_marks i.window i.issued k ∙ ap (λ b. b && is_marked i.open_marks (k % i.window)) flying))

pub returns-else-has : goal.returns-else-has
returns-else-has c =
    let i = c.self.inside in
    let k = c.seq.inside.0 in
    let absent = ap (λ (f : Flights). has f.in_flight k) c.self.view_is ∙ ap (has c.args.self.now.in_flight) c.seq.view_is ∙ sym c.has.ensures
    ∙ c.if-has.false in
    rw (← c.self.view_is, ← c.seq.view_is) (c.if-has.false
    ∙ sym (has_open i.marks i.open_marks i.window i.issued k ∙ ap (λ b. b && is_marked i.open_marks (k % i.window)) absent))
