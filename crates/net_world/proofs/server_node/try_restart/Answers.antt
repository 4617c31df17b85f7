use Rattle.std.proofs.Common.{◌∙◌, sym, subst, List, ℕ}
use Rattle.server_core.specs.Note.{Says}
use Rattle.server_core.specs.Hearing.{packets_heard}
use Rattle.server_core.specs.Words.{words_noted}
use Rattle.net_world.specs.ServerNodes.{Stands}
use Rattle.net_world.proofs.CutLemmas.{tried}
use Rattle.net_world.proofs.server_node.try_restart.Goals as goal

pub returns-in-Ok : goal.returns-in-Ok
returns-in-Ok c o past stands =
    let h = subst (Stands o past) c.in-Off.is stands in
    tried o past c.in-Off.notes c.load.new.self c.try_boot.result h c.load.ensures.left
    (c.try_boot.ensures (words_noted o (packets_heard o past))
    (subst (λ (bs : List ℕ). Says bs (words_noted o (packets_heard o past))) (sym (c.deref.ensures.value ∙ c.in-Ok.ensures.law.1)) h.0))
