use Rattle.std.proofs.Common.{◌≡◌, arith, rules, subst, sym}
use Rattle.engine.specs.Kept.{room_of}
use Rattle.engine.specs.WindowRules.{HasRoom}
use Rattle.engine.proofs.StepLemmas.{room_is}
use Rattle.engine.proofs.window.Window.room.Goals as goal

pub returns-clause-history : goal.returns-clause-history
returns-clause-history c depth window h s =
    let seen : c.by.result ≡ room_of c.args.self.now = search rules in
    subst (HasRoom depth window h) (sym seen) (room_is depth window c.args.self.now h (rw (← c.self.view_is) (omega arith)) s)
