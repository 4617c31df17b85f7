use Rattle.std.proofs.Common.{ap, ◌∙◌}
use Rattle.server_core.specs.Kept.{Kept}
use Rattle.server_core.proofs.RunLemmas.{ended_is}
use Rattle.server_core.proofs.run.Run.have_ended.Goals as goal

pub returns : goal.returns
returns c w h =
    ended_is c.args.self.now w c.deref.result.now c.all_ended.result h (c.deref.ensures.value ∙ ap (λ (k : Kept). k.kept) c.self.view_is) c.all_ended.ensures
