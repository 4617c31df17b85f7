use Rattle.std.proofs.Common.{◌≡◌, Some, Ok, Err, ◌++◌, [], ◌∷◌, inr, rules}
use Rattle.fleet_threads.proofs.SlotLemmas.{reports_more, first_refused}
use Rattle.fleet_threads.proofs.parallel.reports_of.Goals as goal

pub returns-in-Some-Err-clause-refused : goal.returns-in-Some-Err-clause-refused
returns-in-Some-Err-clause-refused g c =
    let held : c.slot-item.result.answer ≡ Some (Err c.in-Some-Err.fault) = search rules in
    inr (first_refused c.args.slots.now c.loop-slot.reports.items c.loop-slot.slot-index c.slot-item.result c.in-Some-Err.fault c.loop-slot-test.true
    c.slot-item.is held c.loop-slot.invariant)

pub loop-slot-preserved : goal.loop-slot-preserved
loop-slot-preserved g c =
    let held : c.slot-item.result.answer ≡ Some (Ok c.in-Some-Ok.report) = search rules in
    let pushed : c.push.new.self.items ≡ c.loop-slot.reports.items ++ c.in-Some-Ok.report ∷ [] = search rules in
    rw pushed (reports_more c.args.slots.now c.loop-slot.reports.items c.loop-slot.slot-index c.slot-item.result c.in-Some-Ok.report c.loop-slot-test.true
    c.slot-item.is held c.loop-slot.invariant)
