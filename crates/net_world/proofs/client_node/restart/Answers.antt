use Rattle.net_world.proofs.ClientPowerLemmas.{weak, restarted}
use Rattle.net_world.proofs.client_node.restart.Goals as goal

pub returns : goal.returns
returns c o past me s =
    restarted c.one_note.ensures o past c.args.servers c.args.mirror c.args.node.now c.restart.new.self c.restart.result me s
    (c.restart.ensures o past (weak o past c.args.node.now s))
