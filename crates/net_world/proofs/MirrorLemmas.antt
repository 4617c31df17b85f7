-- What a mirror sends goes to the client, and is of its kinds; a copy is of a state that it keeps.
use Rattle.std.proofs.Common.{◌≡◌, subst, List}
use Rattle.std.specs.Prelude.{Contains}
use Rattle.verify_state.specs.State.{State}
use Rattle.messages.specs.declared.packet.PacketParts.{PacketParts}
use Rattle.messages.specs.declared.body.Body.TheVariants as bodies
use Rattle.mirror_core.specs.declared.note.MirrorNote.{MirrorNote}
use Rattle.mirror_core.specs.History.{Entry}
use Rattle.mirror_core.specs.Words.{words_noted}
use Rattle.mirror_core.specs.Packets.{copy_of, packets}
use Rattle.mirror_core.specs.Laws.{GoesToClient, PacketsGoToTheClient, CopiesAreNoted}
use Rattle.net_world.proofs.TraceLemmas.{same_packet}
use Rattle.fc_base.proofs.ListLemmas.{each_of}

pub sent_by_mirror : PacketsGoToTheClient → (o : MirrorNote) (past : List Entry) (e : Entry) (p : PacketParts) → Contains (packets o past e) p → GoesToClient p
sent_by_mirror goes o past e p h = each_of GoesToClient (packets o past e) p (goes o past e) h

pub mirror_copies : PacketsGoToTheClient → CopiesAreNoted → (o : MirrorNote) (past : List Entry) (e : Entry) (p : PacketParts) (state : State)
    → Contains (packets o past e) p → p.body ≡ bodies.Copy state → Contains (words_noted o past).kept state
mirror_copies goes copies o past e p state h is =
    let k = sent_by_mirror goes o past e p h in
    copies o past e state (subst (Contains (packets o past e)) (same_packet p (copy_of state) k.0 k.1 is) h)
