use Rattle.std.proofs.Common.{refl, ap, ◌∙◌, arith}
use Rattle.fc_base.specs.Counted.{has}
use Rattle.engine.specs.InFlight.{Flights}
use Rattle.engine.proofs.FlightLemmas.{marked-done, length-marked-done, open-done, same_flights, open_flies}
use Rattle.engine.proofs.in_flight.InFlight.complete.Goals as goal

pub invariant_of-self : goal.invariant_of-self
invariant_of-self c =
    let i = c.self.inside in
    let k = c.seq.inside.0 in
    let opened = ap (λ (f : Flights). has f.open_writes k) c.self.view_is ∙ ap (has c.args.self.now.open_writes) c.seq.view_is ∙ c.requires in
    let flying = open_flies i.marks i.open_marks i.window i.issued k opened in
    let wrote = rw c.slot-slot.ensures.value at c.clear.ensures in (
      c.self.invariant.0,
      c.self.invariant.1,
      omega (
        arith,
        length-marked-done i.marks c.clear.new.self i.window i.issued k (omega arith) (omega arith) flying wrote,
      ),
      c.self.invariant.3,
    )

pub returns : goal.returns
returns c =
    let i = c.self.inside in
    let k = c.seq.inside.0 in
    let opened = ap (λ (f : Flights). has f.open_writes k) c.self.view_is ∙ ap (has c.args.self.now.open_writes) c.seq.view_is ∙ c.requires in
    let flying = open_flies i.marks i.open_marks i.window i.issued k opened in
    let wrote = rw c.slot-slot.ensures.value at c.clear.ensures in
    let wrote_open = rw c.slot-slot.ensures.value at c.clear-2.ensures in
    rw (← c.self.view_is, ← c.seq.view_is) (same_flights i.window i.issued i.issued _ _ _ _ refl
    (marked-done i.marks c.clear.new.self i.window i.issued k (omega arith) (omega arith) flying wrote)
    (open-done i.marks c.clear.new.self i.open_marks c.clear-2.new.self i.window i.issued k (omega arith) (omega arith) flying wrote wrote_open))
