use Rattle.std.proofs.Common.{sym, subst}
use Rattle.std.specs.Prelude.{IfOk}
use Rattle.targets.specs.declared.tour_word.TourWord.TheVariants.{Told}
use Rattle.targets.specs.Touring.{Does, EndsTile}
use Rattle.targets.proofs.tile.Tour.end_tile.Goals as goal

pub returns-in-Taken : goal.returns-in-Taken
returns-in-Taken g c notice words pieces stands ends =
    let tour = c.args.self.now in
    let taken = subst (EndsTile tour.number tour.rec words pieces c.args.tile notice) c.in-Taken.is ends in
    subst (λ n. IfOk c.close.result
    (Does tour.number tour.rec (Told c.args.tile n) words pieces c.close.new.self (g.W.Write.contents c.args.writer.now)
    (g.W.Write.contents c.close.new.writer)))
    (sym taken.0) (c.close.ensures words pieces stands taken.1)
