use Rattle.std.proofs.Common.{[], refl, ◌∙◌, ap}
use Rattle.client_core.specs.Note.{blank}
use Rattle.net_world.proofs.ClientNodeLemmas.{says_blank}
use Rattle.net_world.proofs.client_node.renewal.open_renewed.Goals as goal

pub returns-in-Ok : goal.returns-in-Ok
returns-in-Ok c = (
  c.in-Ok.ensures.stands (record { servers = c.args.servers; noted = blank }) [] refl
      (says_blank _ (ap (λ m. m.bytes) c.new-notes.ensures ∙ c.new.ensures.items)),
  refl,
)
