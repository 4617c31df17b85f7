use Rattle.std.proofs.Common.{sym, subst, ◌∙◌, ap, ◌∷◌, true}
use Rattle.messages.specs.declared.limits.TheConstants.{MIRROR_NUMBER}
use Rattle.messages.specs.Nodes.{node_number}
use Rattle.messages.specs.Bodies.{kind_of}
use Rattle.messages.specs.Kinds.{is_of_mirror}
use Rattle.client_core.specs.Inputs.{Deliver}
use Rattle.client_core.specs.declared.packet_client.PacketClient.{PacketClient}
use Rattle.client_core.specs.Ends.{Stores}
use Rattle.client_core.specs.Framed.{frame_bytes}
use Rattle.client_core.specs.Life.{Hears}
use Rattle.client_core.specs.Lives.{LifeIs}
use Rattle.client_core.specs.Note.{IsNoted}
use Rattle.client_core.specs.Saves.{Keep, addition_by, noted_after}
use Rattle.client_core.proofs.DeliverLemmas.{adds_new, adds_copy, no_reply}
use Rattle.client_core.proofs.CallLemmas.{fails_stored, answers_stored, answers_from_mirror}
use Rattle.client_core.proofs.MirrorLifeLemmas.{mirror_said_nothing, mirror_number}
use Rattle.client_core.proofs.NotedLemmas.{body_step}
use Rattle.client_core.proofs.packet_client.PacketClient.hear_mirror.Goals as goal

pub keep-requires-clause-new : goal.keep-requires-clause-new
keep-requires-clause-new g c = (adds_new c.args.self.now.noted c.args.body.now c.in-Some.state c.in-Some.ensures c.requires.free).new

pub keep-requires-clause-room : goal.keep-requires-clause-room
keep-requires-clause-room g c = (adds_new c.args.self.now.noted c.args.body.now c.in-Some.state c.in-Some.ensures c.requires.free).room

pub returns-in-Err : goal.returns-in-Err
returns-in-Err g c o past p e from to r s =
    let old = c.args.self.now in
    let note = g.N.Notes.note in
    fails_stored note old c.keep.new.self old.life (Keep c.in-Some.state) c.in-Err.unsaved o past (Deliver p) c.notes_are_read_back.ensures c.requires.up r
    (ap (addition_by old.noted) e ∙ c.in-Some.ensures)
    (λ n. subst IsNoted (ap (λ d. noted_after true d old.noted) c.in-Some.ensures)
    (body_step c.found_after_a_push.ensures.apart true old.noted c.args.body.now c.requires.free c.requires.state n))
    (λ deeds h. h) (subst (Stores note (Keep c.in-Some.state) _ c.keep.new.self) c.in-Err.is c.keep.ensures) s

pub returns-in-Ok : goal.returns-in-Ok
returns-in-Ok g c o past p e from to r s =
    let old = c.args.self.now in
    let note = g.N.Notes.note in
    let copy = adds_copy old.noted p c.args.body.now c.in-Some.state e c.requires.kind c.in-Some.ensures in
    let kind = ap (λ b. is_of_mirror (kind_of b)) e ∙ c.requires.kind in
    let stored = subst (Stores note (Keep c.in-Some.state) _ c.keep.new.self) c.in-Ok.is c.keep.ensures in
    answers_stored note old c.keep.new.self old.life c.keep.new.self.life (Keep c.in-Some.state) o past
    (Deliver p) c.new.result c.notes_are_read_back.ensures c.requires.up r
    (ap (addition_by old.noted) e ∙ c.in-Some.ensures)
    (λ n. subst IsNoted (ap (λ d. noted_after true d old.noted) c.in-Some.ensures)
    (body_step c.found_after_a_push.ensures.apart true old.noted c.args.body.now c.requires.free c.requires.state n)) _ stored
    (λ deeds h. c.new.ensures ∙ ap frame_bytes (sym (no_reply old.peers.mirror old.noted deeds (node_number p.from) p.body kind)))
    (λ deeds h. subst (λ l. LifeIs l (Hears (node_number p.from) p.body ∷ deeds)) (sym (ap (λ (m : PacketClient _). m.life) stored.1))
    (mirror_said_nothing old.life (node_number p.from) p.body deeds kind copy.tells h)) copy.grants s

pub returns-in-Ok-hear_mirror : goal.returns-in-Ok-hear_mirror
returns-in-Ok-hear_mirror g c o past p e from to r s =
    let old = c.args.self.now in
    let kind = ap (λ b. is_of_mirror (kind_of b)) e ∙ c.requires.kind in
    answers_from_mirror g.N.Notes.note old c.hear_mirror.new.self o past p c.args.body.now c.new-in-Ok-hear_mirror.result _ e from to c.requires.up
    c.requires.mirror r (ap (addition_by old.noted) e ∙ c.in-None.ensures)
    (λ deeds h. c.new-in-Ok-hear_mirror.ensures ∙ ap frame_bytes (sym (no_reply old.peers.mirror old.noted deeds (node_number p.from) p.body kind)))
    (λ deeds h. subst (λ n. LifeIs c.hear_mirror.new.self (Hears n p.body ∷ deeds)) (sym (mirror_number p.from from))
    (subst (λ b. LifeIs c.hear_mirror.new.self (Hears MIRROR_NUMBER b ∷ deeds)) (sym e) (c.in-Ok-hear_mirror.ensures.left deeds h))) c.hear.ensures s
