use Rattle.std.proofs.Common.{refl, sym, ◌∙◌, ap}
use Rattle.std.specs.Prelude.{is_none}
use Rattle.client_core.specs.Inputs.{Begin}
use Rattle.client_core.specs.Saves.{NextRun}
use Rattle.client_core.proofs.ClientLemmas.{not_some, call_would}
use Rattle.client_core.proofs.packet_client.PacketClient.begin_would_save.Goals as goal

pub returns : goal.returns
returns g c o past s =
    not_some c.is_none.result c.begin_refusal.result (sym c.is_none.ensures) ∙ ap is_none c.begin_refusal.ensures
    ∙ call_would g.N.Notes.note c.args.self.now o past (Begin c.args.text.now) NextRun (λ n. refl) s
