use Rattle.std.proofs.Common.{sym}
use Rattle.net_world.proofs.world.World.write_unopen.Goals as goal

pub returns-in-Ok-clause-why : goal.returns-in-Ok-clause-why
returns-in-Ok-clause-why c w past stands = let h = c.in-Ok.ensures w past stands in sym h.there

pub returns-in-Err-clause-why : goal.returns-in-Err-clause-why
returns-in-Err-clause-why c w past stands = sym (c.in-Err.ensures w past stands).0

pub returns-in-Err-clause-sort : goal.returns-in-Err-clause-sort
returns-in-Err-clause-sort c w past stands = (c.in-Err.ensures w past stands).1
