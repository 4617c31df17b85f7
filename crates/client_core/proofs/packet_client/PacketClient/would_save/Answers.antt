use Rattle.std.proofs.Common.{sym, ◌∙◌, ap, ◌&&◌}
use Rattle.std.specs.Prelude.{is_some, is_none}
use Rattle.messages.specs.declared.body.Body.{Body}
use Rattle.client_core.specs.Saves.{addition_by}
use Rattle.client_core.proofs.ClientLemmas.{none_if, some_if, stands_would}
use Rattle.client_core.proofs.packet_client.PacketClient.would_save.Goals as goal

pub returns-then-is_none : goal.returns-then-is_none
returns-then-is_none g c =
    let free = ap is_none (sym c.refusal.ensures) ∙ none_if c.refusal.result c.if-is_none.ensures in
    let adds = c.adds.ensures ∙ ap (λ (b : Body). is_some (addition_by c.args.self.now.noted b)) c.body.ensures in
    λ o past s.
    adds ∙ (ap (λ b. b && is_some (addition_by c.args.self.now.noted c.args.packet.now.body)) (sym free)
    ∙ stands_would g.N.Notes.note c.args.self.now o past c.args.packet.now s)

pub returns-else-is_none : goal.returns-else-is_none
returns-else-is_none g c =
    let refused = ap is_none (sym c.refusal.ensures) ∙ some_if c.refusal.result c.if-is_none.ensures in
    λ o past s.
    c.if-is_none.false ∙ (ap (λ b. b && is_some (addition_by c.args.self.now.noted c.args.packet.now.body)) (sym refused)
    ∙ stands_would g.N.Notes.note c.args.self.now o past c.args.packet.now s)
