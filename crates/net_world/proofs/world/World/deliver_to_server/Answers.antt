use Rattle.net_world.proofs.EndsLemmas.{delivery_ends}
use Rattle.net_world.proofs.world.World.deliver_to_server.Goals as goal

pub returns : goal.returns
returns c w past number stands is goes =
    delivery_ends w past number c.args.frame c.args.server c.serve.result c.serve.new.self (record { is_sent = is; goes_to = goes }) (c.serve.ensures w past stands)
