use Rattle.std.proofs.Common.{sym, ◌∙◌}
use Rattle.std.proofs.lemmas.Result.{err_from_is_err_and}
use Rattle.net_world.specs.World.{world}
use Rattle.net_world.proofs.NoSaveLemmas.{lost_cut}
use Rattle.net_world.proofs.world.World.cut_in_delivery.Goals as goal

pub returns-in_err-frame : goal.returns-in_err-frame
returns-in_err-frame c w events stands =
    let p = err_from_is_err_and c.from_residual.result c.from_residual.ensures.1 in
    rw (p.1, p.2)
    (lost_cut w (world w events) c.args.landed c.args.self.now c.args.number c.in_err-frame.field-0.0 stands (c.in_err-frame.ensures w events stands))

pub returns-in-Server : goal.returns-in-Server
returns-in-Server c w events stands =
    c.cut_in_at_server.ensures w (world w events) c.args.number stands (c.in_ok-frame.ensures w events stands) (sym c.to_of.ensures ∙ c.in-Server.is)

pub returns-in-Client : goal.returns-in-Client
returns-in-Client c w events stands =
    c.cut_in_client_delivery.ensures w (world w events) c.args.number stands (c.in_ok-frame.ensures w events stands) (sym c.to_of.ensures ∙ c.in-Client.is)

pub returns-in-Mirror : goal.returns-in-Mirror
returns-in-Mirror c w events stands =
    c.cut_in_mirror_delivery.ensures w (world w events) c.args.number stands (c.in_ok-frame.ensures w events stands) (sym c.to_of.ensures ∙ c.in-Mirror.is)
