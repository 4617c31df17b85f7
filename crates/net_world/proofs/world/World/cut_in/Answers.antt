use Rattle.std.proofs.Common.{sym, subst}
use Rattle.net_world.specs.declared.event.PlainEvent.{PlainEvent}
use Rattle.net_world.specs.Events.{plain_happening}
use Rattle.net_world.specs.Happenings.{CutIn}
use Rattle.net_world.specs.World.{world}
use Rattle.net_world.specs.Ends.{Ends}
use Rattle.net_world.proofs.world.World.cut_in.Goals as goal

pub returns-in-Cut : goal.returns-in-Cut
returns-in-Cut c w events stands =
    subst (λ (e : PlainEvent). Ends w (world w events) (CutIn c.args.landed (plain_happening e)) c.args.self.now c.cut_in_cut.result) (sym c.in-Cut.is)
    (c.cut_in_cut.ensures c.args.landed w (world w events) stands)
