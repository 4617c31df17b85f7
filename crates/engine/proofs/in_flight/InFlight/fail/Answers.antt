use Rattle.std.proofs.Common.{refl, ap, ◌∙◌, arith}
use Rattle.fc_base.specs.Counted.{has}
use Rattle.engine.specs.InFlight.{Flights}
use Rattle.engine.proofs.FlightLemmas.{open-fail, same_flights, open_flies}
use Rattle.engine.proofs.in_flight.InFlight.fail.Goals as goal

pub returns : goal.returns
returns c =
    let i = c.self.inside in
    let k = c.seq.inside.0 in
    let opened = ap (λ (f : Flights). has f.open_writes k) c.self.view_is ∙ ap (has c.args.self.now.open_writes) c.seq.view_is ∙ c.requires in
    let flying = open_flies i.marks i.open_marks i.window i.issued k opened in
    let wrote = rw c.slot.ensures.value at c.clear.ensures in
    rw (← c.self.view_is, ← c.seq.view_is) (same_flights i.window i.issued i.issued _ _ _ _ refl refl
    (open-fail i.marks i.open_marks c.clear.new.self i.window i.issued k (omega arith) (omega arith) flying wrote))
