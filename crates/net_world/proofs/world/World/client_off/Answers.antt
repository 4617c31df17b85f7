use Rattle.std.proofs.Common.{sym, ◌∙◌}
use Rattle.net_world.specs.Trace.{client_opening}
use Rattle.net_world.specs.Asking.{entries}
use Rattle.net_world.proofs.NoSaveLemmas.{client_there, client_gone}
use Rattle.net_world.proofs.world.World.client_off.Goals as goal

pub returns-then-runs-clause-why : goal.returns-then-runs-clause-why
returns-then-runs-clause-why c w past stands = sym (client_there w past (sym (c.runs.ensures (client_opening w) (entries w past) stands.client_is) ∙ c.if-runs.true))

pub returns-else-runs-clause-why : goal.returns-else-runs-clause-why
returns-else-runs-clause-why c w past stands = sym (client_gone w past (sym (c.runs.ensures (client_opening w) (entries w past) stands.client_is) ∙ c.if-runs.false))
