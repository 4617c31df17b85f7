use Rattle.std.proofs.Common.{◌∙◌}
use Rattle.disk_model.specs.MemNotes.{note_of}
use Rattle.client_core.specs.NodeKind.{client_kind}
use Rattle.node.proofs.PowerLemmas.{shown}
use Rattle.net_world.proofs.ClientPowerLemmas.{weak}
use Rattle.net_world.proofs.client_node.runs.Goals as goal

pub returns : goal.returns
returns c o past s =
    let node = c.args.node.now in
    c.is_some.ensures ∙ shown (client_kind note_of o) past node c.core.result (c.core.ensures o past (weak o past node s))
