use Rattle.std.proofs.Common.{[], refl, ◌∙◌, ap}
use Rattle.client_core.specs.Note.{blank}
use Rattle.net_world.proofs.ClientNodeLemmas.{says_blank}
use Rattle.net_world.proofs.client_node.open.Goals as goal

pub returns-in-Ok-clause-stands : goal.returns-in-Ok-clause-stands
returns-in-Ok-clause-stands c = (
  c.in-Ok.ensures.stands (record { servers = c.args.servers; noted = blank }) [] refl
      (says_blank _ (ap (λ m. m.bytes) c.new-2.ensures ∙ c.new.ensures.items)),
  refl,
)
