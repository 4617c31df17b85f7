use Rattle.std.proofs.Common.{sym, ◌∙◌}
use Rattle.server_core.specs.declared.input.Input.TheVariants.{Deliver}
use Rattle.server_core.proofs.ServeLemmas.{saves_where_due}
use Rattle.server_core.proofs.packet_server.PacketServer.would_save.Goals as goal

pub returns-then-not-is_down : goal.returns-then-not-is_down
returns-then-not-is_down g c o past s =
    c.is_some.ensures ∙ saves_where_due g.N.Notes.note c.args.self.now o past
    (Deliver c.args.packet.now) c.due_by.result (sym c.is_down.ensures ∙ c.if-not-is_down.true) s c.due_by.ensures.due
