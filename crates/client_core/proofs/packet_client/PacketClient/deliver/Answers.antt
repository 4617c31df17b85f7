use Rattle.std.proofs.Common.{sym, ◌∙◌, ap, arith}
use Rattle.messages.specs.declared.packet.PacketParts.{PacketParts}
use Rattle.messages.specs.Bodies.{kind_of}
use Rattle.messages.specs.Kinds.{is_of_mirror}
use Rattle.messages.specs.Nodes.{node_number, is_mirror}
use Rattle.client_core.specs.Inputs.{Deliver}
use Rattle.client_core.proofs.EndLemmas.{refuses}
use Rattle.client_core.proofs.DeliverLemmas.{deliver_free, from_a_server, from_the_mirror, body_of_packet}
use Rattle.client_core.proofs.packet_client.PacketClient.deliver.Goals as goal

pub returns-in-Some : goal.returns-in-Some
returns-in-Some g c o past s = refuses g.N.Notes.note c.args.self.now o past (Deliver c.args.packet) c.in-Some.fault (sym c.refusal.ensures ∙ c.in-Some.is) s

pub hear-requires-clause-server : goal.hear-requires-clause-server
hear-requires-clause-server g c =
    let d = deliver_free c.args.self.now.durable.down c.args.self.now.peers c.args.self.now.noted c.args.packet (sym c.refusal.ensures ∙ c.in_default.is) in
    let other = ap is_mirror (sym c.from.ensures) ∙ sym c.is_mirror-mirror.ensures ∙ c.if-mirror.false in
    omega (arith, from_a_server c.args.self.now.peers c.args.packet c.are_few.ensures other d.1, c.number-server.ensures, ap node_number c.from-2.ensures)

pub hear-requires-clause-body : goal.hear-requires-clause-body
hear-requires-clause-body g c = body_of_packet c.into_parts-body.result c.into_parts-body.ensures.ranges.in_range

pub hear_mirror-requires-clause-mirror : goal.hear_mirror-requires-clause-mirror
hear_mirror-requires-clause-mirror g c =
    let d = deliver_free c.args.self.now.durable.down c.args.self.now.peers c.args.self.now.noted c.args.packet (sym c.refusal.ensures ∙ c.in_default.is) in
    (from_the_mirror c.args.self.now.peers c.args.packet (ap is_mirror (sym c.from.ensures) ∙ sym c.is_mirror-mirror.ensures ∙ c.if-mirror.true) d.1).0

pub hear_mirror-requires-clause-kind : goal.hear_mirror-requires-clause-kind
hear_mirror-requires-clause-kind g c =
    let d = deliver_free c.args.self.now.durable.down c.args.self.now.peers c.args.self.now.noted c.args.packet (sym c.refusal.ensures ∙ c.in_default.is) in
    ap (λ (p : PacketParts). is_of_mirror (kind_of p.body)) c.into_parts-body.ensures.value
    ∙ (from_the_mirror c.args.self.now.peers c.args.packet (ap is_mirror (sym c.from.ensures) ∙ sym c.is_mirror-mirror.ensures ∙ c.if-mirror.true) d.1).1

pub returns-then-mirror : goal.returns-then-mirror
returns-then-mirror g c o past s =
    let d = deliver_free c.args.self.now.durable.down c.args.self.now.peers c.args.self.now.noted c.args.packet (sym c.refusal.ensures ∙ c.in_default.is) in
    let from = ap is_mirror (sym c.from.ensures) ∙ sym c.is_mirror-mirror.ensures ∙ c.if-mirror.true in
    c.hear_mirror.ensures o past c.args.packet (sym (ap (λ (p : PacketParts). p.body) c.into_parts-body.ensures.value)) from
    (from_the_mirror c.args.self.now.peers c.args.packet from d.1).2 (sym c.refusal.ensures ∙ c.in_default.is) s

pub returns : goal.returns
returns g c o past s =
    c.hear.ensures o past c.args.packet (sym (ap (λ (p : PacketParts). p.body) c.into_parts-body.ensures.value))
    (sym (c.number-server.ensures ∙ ap node_number c.from-2.ensures)) (sym c.refusal.ensures ∙ c.in_default.is) s
