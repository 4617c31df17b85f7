use Rattle.std.proofs.Common.{refl, sym, ◌∙◌, ap}
use Rattle.std.specs.Prelude.{is_none}
use Rattle.client_core.specs.Inputs.{Verify}
use Rattle.client_core.specs.Saves.{NextAttempt}
use Rattle.client_core.proofs.ClientLemmas.{not_some, call_would}
use Rattle.client_core.proofs.packet_client.PacketClient.verify_would_save.Goals as goal

pub returns : goal.returns
returns g c o past s =
    not_some c.is_none.result c.verify_refusal.result (sym c.is_none.ensures) ∙ ap is_none c.verify_refusal.ensures.why
    ∙ call_would g.N.Notes.note c.args.self.now o past (Verify c.args.run c.args.text.now) NextAttempt (λ n. refl) s
