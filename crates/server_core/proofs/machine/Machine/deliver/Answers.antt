use Rattle.server_core.proofs.BodyParts.{body_in_range}
use Rattle.server_core.proofs.machine.Machine.deliver.Goals as goal

pub serve-requires : goal.serve-requires
serve-requires c = body_in_range c.into_parts-from.result c.into_parts-from.ensures.ranges
