use Rattle.std.proofs.Common.{sym}
use Rattle.disk_model.specs.MemNotes.{note_of}
use Rattle.client_core.specs.NodeKind.{client_kind}
use Rattle.node.proofs.PowerLemmas.{hidden, there}
use Rattle.net_world.proofs.ClientPowerLemmas.{weak, kept, renewed}
use Rattle.net_world.proofs.client_node.renewal.renew.Goals as goal

pub returns-then-is_some : goal.returns-then-is_some
returns-then-is_some c o past me s =
    let node = c.args.node.now in
    (there (client_kind note_of o) past node c.core.result (c.core.ensures o past (weak o past node s)) (sym c.if-is_some.ensures), s)

pub returns-in-Some : goal.returns-in-Some
returns-in-Some c o past me s =
    let node = c.args.node.now in
    let w = weak o past node s in
    let off = hidden (client_kind note_of o) past node c.core.result (c.core.ensures o past w) (sym c.if-is_some.ensures) in
    let notes = c.in-Some.notes in
    renewed c.one_note.ensures o past c.args.servers c.args.generation notes c.put.new.self c.put.result c.renew.result me c.requires.fits off
    (kept o past node notes s off (c.in-Some.ensures.says o past w) (c.in-Some.ensures.same o)) c.renew.ensures c.put.ensures.left c.put.ensures.told

pub returns-in-None : goal.returns-in-None
returns-in-None c o past me s = absurd (c.in-None.ensures.none o past (weak o past c.args.node.now s))
