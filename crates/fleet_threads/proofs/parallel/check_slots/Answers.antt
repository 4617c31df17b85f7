use Rattle.std.proofs.Common.{◌≡◌, length, rules}
use Rattle.fleet_threads.proofs.SlotLemmas.{each_answered}
use Rattle.fleet_threads.proofs.parallel.check_slots.Goals as goal

pub returns-clause-answers : goal.returns-clause-answers
returns-clause-answers g c =
    let len : length c.for_each_mut.new.s ≡ length c.args.slots.now = search rules in
    each_answered g.D.Disk.file c.args.slots.now c.for_each_mut.new.s len (λ i d low. let changed = (c.for_each_mut.ensures i d low).1 in search rules)
