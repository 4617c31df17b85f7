use Rattle.std.proofs.Common.{refl, sym, ap, ◌∙◌}
use Rattle.std.specs.Prelude.{not}
use Rattle.fc_base.specs.declared.fault.Fault.TheVariants.{Down}
use Rattle.client_core.specs.Inputs.{Tick}
use Rattle.client_core.specs.Refusals.{refusal_by}
use Rattle.client_core.proofs.CallLemmas.{answers_plain}
use Rattle.client_core.proofs.EndLemmas.{refuses, lacks}
use Rattle.client_core.proofs.packet_client.PacketClient.tick.Goals as goal

pub returns-then-is_down : goal.returns-then-is_down
returns-then-is_down g c o past s =
    let old = c.args.self.now in
    refuses g.N.Notes.note old o past Tick Down (ap (λ d. refusal_by (not d) old.peers old.noted Tick) (sym c.is_down.ensures ∙ c.if-is_down.true)) s

pub returns-in-Err : goal.returns-in-Err
returns-in-Err g c o past s = lacks g.N.Notes.note c.args.self.now c.args.self.now.life o past Tick (λ deeds h. h) s

pub returns-in-Ok : goal.returns-in-Ok
returns-in-Ok g c o past s =
    let old = c.args.self.now in
    answers_plain g.N.Notes.note old old.life o past Tick c.in-Ok.frames (sym c.is_down.ensures ∙ c.if-is_down.false)
    (ap (λ d. refusal_by (not d) old.peers old.noted Tick) (sym c.is_down.ensures ∙ c.if-is_down.false)) refl
    (λ deeds h. c.in-Ok.ensures deeds h) (λ deeds h. h) refl s
