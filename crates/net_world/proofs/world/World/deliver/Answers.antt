use Rattle.std.proofs.Common.{sym, ◌∙◌}
use Rattle.std.proofs.lemmas.Result.{err_from_is_err_and}
use Rattle.net_world.specs.World.{world}
use Rattle.net_world.proofs.ClientFrameLemmas.{comes_as}
use Rattle.net_world.proofs.DeliverLemmas.{lost_frame}
use Rattle.net_world.proofs.world.World.deliver.Goals as goal

pub returns-in_err-frame : goal.returns-in_err-frame
returns-in_err-frame c w events stands =
    let p = err_from_is_err_and c.from_residual.result c.from_residual.ensures.1 in
    rw (p.1, p.2)
    (lost_frame w (world w events) c.args.self.now c.args.number c.in_err-frame.field-0.0 stands (c.in_err-frame.ensures w events stands))

pub returns-in-Server : goal.returns-in-Server
returns-in-Server c w events stands =
    c.deliver_to_server.ensures w (world w events) c.args.number stands (c.in_ok-frame.ensures w events stands) (sym c.to_of.ensures ∙ c.in-Server.is)

pub returns-in-Client : goal.returns-in-Client
returns-in-Client c w events stands =
    comes_as w (world w events) c.args.number c.in_ok-frame.frame c.ask.result c.ask.new.self
    (record { is_sent = c.in_ok-frame.ensures w events stands; goes_to = sym c.to_of.ensures ∙ c.in-Client.is }) (c.ask.ensures w (world w events) stands)

pub returns-in-Mirror : goal.returns-in-Mirror
returns-in-Mirror c w events stands =
    c.deliver_to_mirror.ensures w (world w events) c.args.number stands (c.in_ok-frame.ensures w events stands) (sym c.to_of.ensures ∙ c.in-Mirror.is)
