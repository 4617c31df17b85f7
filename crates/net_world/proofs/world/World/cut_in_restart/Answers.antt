use Rattle.std.proofs.Common.{sym, subst}
use Rattle.messages.specs.declared.node.Node.{Node}
use Rattle.net_world.specs.Happenings.{Restart, CutIn}
use Rattle.net_world.specs.Ends.{Ends}
use Rattle.net_world.proofs.world.World.cut_in_restart.Goals as goal

pub returns-in-Server : goal.returns-in-Server
returns-in-Server c w past stands =
    subst (λ (node : Node). Ends w past (CutIn c.args.landed (Restart node)) c.cut_in_server_restart.new.self c.cut_in_server_restart.result)
    (sym c.in-Server.is) (c.cut_in_server_restart.ensures w past stands)

pub returns-in-Client : goal.returns-in-Client
returns-in-Client c w past stands =
    subst (λ (node : Node). Ends w past (CutIn c.args.landed (Restart node)) c.args.self.now c.cut_in_client_restart.result) (sym c.in-Client.is)
    (c.cut_in_client_restart.ensures c.args.landed w past stands)
