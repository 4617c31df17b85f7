use Rattle.std.proofs.Common.{sym, ◌∙◌}
use Rattle.server_core.proofs.ServeLemmas.{taken, sendable}
use Rattle.server_core.proofs.StartedLemmas.{started}
use Rattle.server_core.proofs.packet_server.PacketServer.step.Goals as goal

pub returns-in-None : goal.returns-in-None
returns-in-None g c o past s =
    taken g.N.Notes.note c.args.self.now c.accept.new.self o past c.args.input c.accept.result (sym c.is_down.ensures ∙ c.if-is_down.false) s
    c.in-None.ensures.due c.accept.ensures
    (λ o past. sendable c.frames_are_short.ensures c.packets_are_in_range.ensures o past c.args.input c.keeps_its_ranges.ensures)

pub returns-in-Some : goal.returns-in-Some
returns-in-Some g c o past s =
    started g.N.Notes.note c.args.self.now c.start.new.self o past c.args.input c.in-Some.run' c.start.result (sym c.is_down.ensures ∙ c.if-is_down.false) s
    c.in-Some.ensures.range c.in-Some.ensures.due c.start.ensures
    (sendable c.frames_are_short.ensures c.packets_are_in_range.ensures o past c.args.input c.keeps_its_ranges.ensures)
