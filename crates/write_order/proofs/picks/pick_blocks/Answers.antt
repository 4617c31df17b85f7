use Rattle.write_order.proofs.PickSteps.{blocks_without_map}
use Rattle.write_order.proofs.picks.pick_blocks.Goals as goal

pub returns-else-map : goal.returns-else-map
returns-else-map c = rw (c.if-map.false, ← blocks_without_map c.args.words.now c.args.blocks) c.pick_freely.ensures
