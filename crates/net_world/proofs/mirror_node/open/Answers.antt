use Rattle.std.proofs.Common.{[], refl, ◌∙◌, ap}
use Rattle.mirror_core.specs.Note.{blank}
use Rattle.net_world.proofs.MirrorNodeLemmas.{says_blank}
use Rattle.net_world.proofs.mirror_node.open.Goals as goal

pub returns-in-Ok : goal.returns-in-Ok
returns-in-Ok c = (c.in-Ok.ensures.stands blank [] (says_blank _ (ap (λ m. m.bytes) c.new-2.ensures ∙ c.new.ensures.items)), refl)
