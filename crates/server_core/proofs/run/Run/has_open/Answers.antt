use Rattle.std.proofs.Common.{ap, ◌∙◌}
use Rattle.server_core.specs.Kept.{Kept}
use Rattle.server_core.proofs.RunLemmas.{open_is}
use Rattle.server_core.proofs.run.Run.has_open.Goals as goal

pub returns : goal.returns
returns c w h =
    open_is c.args.self.now w c.deref.result.now c.any_open.result h (c.deref.ensures.value ∙ ap (λ (k : Kept). k.kept) c.self.view_is) c.any_open.ensures
