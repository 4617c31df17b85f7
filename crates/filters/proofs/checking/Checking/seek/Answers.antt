use Rattle.std.proofs.Common.{◌/◌, ap, arith, refl}
use Rattle.filters.proofs.CheckLemmas.{goes_on, over}
use Rattle.filters.proofs.checking.Checking.seek.Goals as goal

pub returns-then-first-blocks : goal.returns-then-first-blocks
returns-then-first-blocks c = λ j u come next.
    over j c.args.self u c.first_wanted-first.result c.finish.result come next c.args.self.goes_on (omega arith) (omega arith) c.first_wanted-first.ensures.none
    c.finish.ensures.seen

pub returns : goal.returns
returns c = λ j u come next.
    goes_on j c.args.self _ u come next c.args.self.goes_on refl refl refl refl (omega arith) (omega arith) c.first_wanted-first.ensures.none
    (c.first_wanted-first.ensures.found (omega arith)) (omega arith) (omega arith)
    (omega (arith, c.wanted_from-count.ensures.few, ap (λ k. 1048576 / k) c.args.self.size_is)) (omega arith) c.wanted_from-count.ensures.checked
    (λ less within. c.wanted_from-count.ensures.all (omega (arith, less, ap (λ k. 1048576 / k) c.args.self.size_is)) (omega (arith, within)))
