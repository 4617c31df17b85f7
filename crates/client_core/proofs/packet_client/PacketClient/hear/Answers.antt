use Rattle.std.proofs.Common.{sym, subst, ◌∙◌, ap, ◌∷◌, true}
use Rattle.messages.specs.Nodes.{node_number}
use Rattle.client_core.specs.Inputs.{Deliver}
use Rattle.client_core.specs.declared.packet_client.PacketClient.{PacketClient}
use Rattle.client_core.specs.Ends.{Stores}
use Rattle.client_core.specs.Framed.{frame_bytes}
use Rattle.client_core.specs.Life.{Hears}
use Rattle.client_core.specs.Lives.{LifeIs}
use Rattle.client_core.specs.Note.{IsNoted}
use Rattle.client_core.specs.Saves.{Keep, addition_by, noted_after}
use Rattle.client_core.proofs.DeliverLemmas.{adds_new, replied_to}
use Rattle.client_core.proofs.CallLemmas.{fails_stored, answers_stored, answers_plain}
use Rattle.client_core.proofs.NotedLemmas.{body_step}
use Rattle.client_core.proofs.PeersLemmas.{from_server_grants_none, no_mirror}
use Rattle.client_core.proofs.packet_client.PacketClient.hear.Goals as goal

pub keep-requires-clause-new : goal.keep-requires-clause-new
keep-requires-clause-new g c = (adds_new c.args.self.now.noted c.args.body c.in-Some.state c.in-Some.ensures c.requires.free).new

pub keep-requires-clause-room : goal.keep-requires-clause-room
keep-requires-clause-room g c = (adds_new c.args.self.now.noted c.args.body c.in-Some.state c.in-Some.ensures c.requires.free).room

pub hear-requires-clause-no_report : goal.hear-requires-clause-no_report
hear-requires-clause-no_report g c = (adds_new c.args.self.now.noted c.args.body c.in-Some.state c.in-Some.ensures c.requires.free).no_report

pub returns-in-Some : goal.returns-in-Some
returns-in-Some g c o past p e f r s =
    let old = c.args.self.now in
    let note = g.N.Notes.note in
    fails_stored note old c.keep.new.self old.life (Keep c.in-Some.state) c.in-Err.fault o past (Deliver p) c.notes_are_read_back.ensures c.requires.up r
    (ap (addition_by old.noted) e ∙ c.in-Some.ensures)
    (λ n. subst IsNoted (ap (λ d. noted_after true d old.noted) c.in-Some.ensures)
    (body_step c.found_after_a_push.ensures.apart true old.noted c.args.body c.requires.free c.requires.state n))
    (λ deeds h. h) (subst (Stores note (Keep c.in-Some.state) _ c.keep.new.self) c.in-Err.is c.keep.ensures) s

pub returns-in-Ok-keep : goal.returns-in-Ok-keep
returns-in-Ok-keep g c o past p e f r s =
    let old = c.args.self.now in
    let note = g.N.Notes.note in
    let stored = subst (Stores note (Keep c.in-Some.state) _ c.keep.new.self) c.in-Ok-keep.is c.keep.ensures in
    answers_stored note old c.keep.new.self old.life c.hear.new.self (Keep c.in-Some.state) o past
    (Deliver p) c.in-Ok.frames c.notes_are_read_back.ensures c.requires.up r
    (ap (addition_by old.noted) e ∙ c.in-Some.ensures)
    (λ n. subst IsNoted (ap (λ d. noted_after true d old.noted) c.in-Some.ensures)
    (body_step c.found_after_a_push.ensures.apart true old.noted c.args.body c.requires.free c.requires.state n)) _ stored
    (λ deeds h. c.in-Ok.ensures deeds h ∙ ap frame_bytes (replied_to old.peers.mirror old.noted deeds p c.args.server c.args.body e f))
    (λ deeds h. subst (λ b. LifeIs c.hear.new.self (Hears (node_number p.from) b ∷ deeds)) (sym e)
    (subst (λ n. LifeIs c.hear.new.self (Hears n c.args.body ∷ deeds)) (sym f)
    (c.hear.ensures deeds (subst (λ l. LifeIs l deeds) (sym (ap (λ (m : PacketClient _). m.life) stored.1)) h))))
    (from_server_grants_none p (no_mirror p.from c.args.server f c.requires.server)) s

pub returns-in-Ok-hear_any : goal.returns-in-Ok-hear_any
returns-in-Ok-hear_any g c o past p e f r s =
    let old = c.args.self.now in
    answers_plain g.N.Notes.note old c.hear_any.new.self o past (Deliver p) c.in-Ok.frames c.requires.up r (ap (addition_by old.noted) e ∙ c.in-None.ensures)
    (λ deeds h. c.in-Ok.ensures deeds h ∙ ap frame_bytes (replied_to old.peers.mirror old.noted deeds p c.args.server c.args.body e f))
    (λ deeds h. subst (λ b. LifeIs c.hear_any.new.self (Hears (node_number p.from) b ∷ deeds)) (sym e)
    (subst (λ n. LifeIs c.hear_any.new.self (Hears n c.args.body ∷ deeds)) (sym f)
    (c.in-Ok-hear_any.ensures.left deeds h))) (from_server_grants_none p (no_mirror p.from c.args.server f c.requires.server)) s
