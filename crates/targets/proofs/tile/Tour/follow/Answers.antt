use Rattle.std.proofs.Common.{sym, subst}
use Rattle.std.specs.Prelude.{IfOk}
use Rattle.targets.specs.Touring.{Does}
use Rattle.targets.proofs.tile.Tour.follow.Goals as goal

pub returns-in-Told : goal.returns-in-Told
returns-in-Told g c words pieces fits stands =
    subst (λ w. IfOk c.tell.result
    (Does c.args.self.now.number c.args.self.now.rec w words pieces c.tell.new.self (g.W.Write.contents c.args.writer.now)
    (g.W.Write.contents c.tell.new.writer)))
    (sym c.in-Told.is) (c.tell.ensures words pieces stands)
