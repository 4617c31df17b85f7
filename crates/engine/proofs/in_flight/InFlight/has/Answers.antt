use Rattle.std.proofs.Common.{◌%◌, ◌&&◌, sym, ap, ◌∙◌}
use Rattle.fc_base.specs.Marks.{is_marked}
use Rattle.engine.proofs.FlightLemmas.{has_marked}
use Rattle.engine.proofs.in_flight.InFlight.has.Goals as goal

pub returns-then-is_last : goal.returns-then-is_last
returns-then-is_last c =
    let i = c.self.inside in
    let k = c.seq.inside.0 in
    let last = sym c.is_last.ensures ∙ c.if-is_last.true in
    rw (← c.self.view_is, ← c.seq.view_is) (c.has.ensures ∙ ap (is_marked i.marks) c.slot.ensures.value
    ∙ sym (has_marked i.marks i.window i.issued k ∙ ap (λ b. b && is_marked i.marks (k % i.window)) last))

pub returns-else-is_last : goal.returns-else-is_last
returns-else-is_last c =
    let i = c.self.inside in
    let k = c.seq.inside.0 in
    let past = sym c.is_last.ensures ∙ c.if-is_last.false in
    rw (← c.self.view_is, ← c.seq.view_is) (c.if-is_last.false
    ∙ sym (has_marked i.marks i.window i.issued k ∙ ap (λ b. b && is_marked i.marks (k % i.window)) past))
