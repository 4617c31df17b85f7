use Rattle.std.proofs.Common.{sym, subst}
use Rattle.messages.specs.declared.node.Node.{Node}
use Rattle.net_world.specs.Happenings.{Restart}
use Rattle.net_world.specs.Ends.{Ends}
use Rattle.net_world.proofs.world.World.restart.Goals as goal

pub returns-in-Server : goal.returns-in-Server
returns-in-Server c w past stands =
    subst (λ (node : Node). Ends w past (Restart node) c.restart_server.new.self c.restart_server.result) (sym c.in-Server.is)
    (c.restart_server.ensures w past stands)

pub returns-in-Client : goal.returns-in-Client
returns-in-Client c w past stands =
    subst (λ (node : Node). Ends w past (Restart node) c.restart_client.new.self c.restart_client.result) (sym c.in-Client.is)
    (c.restart_client.ensures w past stands)

pub returns-in-Mirror : goal.returns-in-Mirror
returns-in-Mirror c w past stands =
    subst (λ (node : Node). Ends w past (Restart node) c.restart_mirror.new.self c.restart_mirror.result) (sym c.in-Mirror.is)
    (c.restart_mirror.ensures w past stands)
