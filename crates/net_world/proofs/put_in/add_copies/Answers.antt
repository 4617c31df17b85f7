use Rattle.std.proofs.Common.{◌∙◌, ap}
use Rattle.std.specs.Prelude.{map}
use Rattle.net_world.specs.Events.{happening}
use Rattle.net_world.proofs.PutLemmas.{one_more}
use Rattle.net_world.proofs.put_in.add_copies.Goals as goal

pub loop-event-preserved : goal.loop-event-preserved
loop-event-preserved c =
    ap (map happening) c.in_ok-push.ensures.items
    ∙ one_more c.loop-event.all.items c.args.events.now (map happening c.args.all.now.items) c.loop-event.event-index c.event-item.result c.in_ok-copied.field-0
    c.loop-event-test.true c.event-item.is c.in_ok-copied.ensures c.loop-event.invariant
