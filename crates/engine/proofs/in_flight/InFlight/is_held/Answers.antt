use Rattle.std.proofs.Common.{◌&&◌, ◌-◌, sym, ap, ◌∙◌}
use Rattle.std.proofs.lemmas.Bool.{le-leb, lt-leb}
use Rattle.fc_base.specs.Counted.{has}
use Rattle.engine.specs.InFlight.{Flights, marked_numbers}
use Rattle.engine.proofs.FlightLemmas.{held_is}
use Rattle.engine.proofs.in_flight.InFlight.is_held.Goals as goal

pub returns-then-self : goal.returns-then-self
returns-then-self c =
    let i = c.self.inside in
    let flying = marked_numbers i.marks i.window i.issued in
    let seen = ap (λ (f : Flights). has f.in_flight (i.issued - i.window)) c.self.view_is in
    let old = le-leb i.window i.issued c.if-self.true in
    rw (← c.self.view_is) (c.has.ensures ∙ sym seen ∙ sym (held_is i.marks i.window i.issued ∙ ap (λ b. b && has flying (i.issued - i.window)) old))

pub returns-else-self : goal.returns-else-self
returns-else-self c =
    let i = c.self.inside in
    let flying = marked_numbers i.marks i.window i.issued in
    let few = lt-leb i.window i.issued c.if-self.false in
    rw (← c.self.view_is) (few ∙ sym (held_is i.marks i.window i.issued ∙ ap (λ b. b && has flying (i.issued - i.window)) few))
