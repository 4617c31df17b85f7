use Rattle.std.proofs.Common.{◌+◌, length, leb, refl, ap, ◌∙◌, arith}
use Rattle.std.specs.List.{list_any}
use Rattle.std.proofs.lemmas.List.{length_push}
use Rattle.engine.specs.InFlight.{Flights, marked_numbers}
use Rattle.engine.proofs.FlightLemmas.{marked-issue, open-issue, same_flights, length_marked}
use Rattle.engine.proofs.in_flight.InFlight.issue.Goals as goal

pub overflow_add-self : goal.overflow_add-self
overflow_add-self c =
    let i = c.self.inside in
    omega (arith, length_marked i.marks i.window i.issued, ap (λ (f : Flights). f.issued) c.self.view_is)

pub invariant_of-self : goal.invariant_of-self
invariant_of-self c =
    let i = c.self.inside in
    let none = ap (λ (f : Flights). list_any (λ j. leb (j + f.window) f.issued) f.in_flight) c.self.view_is ∙ c.requires.clear in
    let wrote = rw c.slot-slot.ensures.value at c.set.ensures in
    let more = marked-issue i.marks c.set.new.self i.window i.issued (omega arith) (omega arith) none wrote in (
      c.self.invariant.0,
      c.self.invariant.1,
      omega (arith, ap length more, length_push (marked_numbers i.marks i.window i.issued) i.issued),
      omega (arith, ap (λ (f : Flights). f.issued) c.self.view_is),
    )

pub returns : goal.returns
returns c =
    let i = c.self.inside in
    let none = ap (λ (f : Flights). list_any (λ j. leb (j + f.window) f.issued) f.in_flight) c.self.view_is ∙ c.requires.clear in
    let wrote = rw c.slot-slot.ensures.value at c.set.ensures in
    let wrote_open = rw c.slot-slot.ensures.value at c.set-2.ensures in
    rw (← c.self.view_is) (same_flights i.window (i.issued + 1) (i.issued + 1) _ _ _ _ refl
    (marked-issue i.marks c.set.new.self i.window i.issued (omega arith) (omega arith) none wrote)
    (open-issue i.marks c.set.new.self i.open_marks c.set-2.new.self i.window i.issued (omega arith) (omega arith) none wrote wrote_open))
