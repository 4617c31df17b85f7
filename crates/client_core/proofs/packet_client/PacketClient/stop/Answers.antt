use Rattle.std.proofs.Common.{refl, sym, ◌∙◌, ap}
use Rattle.messages.specs.declared.body.Body.TheVariants as bodies
use Rattle.client_core.specs.Inputs.{Stop}
use Rattle.client_core.specs.Framed.{frame_bytes}
use Rattle.client_core.specs.Packets.{to_all}
use Rattle.client_core.proofs.CallLemmas.{answers_plain}
use Rattle.client_core.proofs.EndLemmas.{refuses}
use Rattle.client_core.proofs.RefusalLemmas.{run_free}
use Rattle.client_core.proofs.packet_client.PacketClient.stop.Goals as goal

pub returns-in-Some : goal.returns-in-Some
returns-in-Some g c o past s = refuses g.N.Notes.note c.args.self.now o past (Stop c.args.run) c.in-Some.fault (sym c.run_refusal.ensures.why ∙ c.in-Some.is) s

pub to_all-requires-clause-body : goal.to_all-requires-clause-body
to_all-requires-clause-body g c = c.run_refusal.ensures.range c.in_default.is

pub make_room_for_run-requires : goal.make_room_for_run-requires
make_room_for_run-requires g c = c.run_refusal.ensures.range c.in_default.is

pub returns : goal.returns
returns g c o past s =
    let call = Stop c.args.run in
    let free = sym c.run_refusal.ensures.why ∙ c.in_default.is in
    answers_plain g.N.Notes.note c.args.self.now c.stop.new.self o past call c.in-Ok.frames (run_free _ _ free).0 free refl
    (λ deeds h. c.in-Ok.ensures ∙ ap (λ n. frame_bytes (to_all n (bodies.Stop c.args.run))) c.count.ensures.count)
    (λ deeds h. c.stop.ensures deeds (c.make_room_for_run.ensures.same deeds h)) refl s
