use Rattle.std.proofs.Common.{sym, subst}
use Rattle.messages.specs.declared.node.Node.{Node}
use Rattle.net_world.specs.Happenings.{Cut}
use Rattle.net_world.specs.Ends.{Ends}
use Rattle.net_world.proofs.world.World.cut.Goals as goal

pub returns-in-Server : goal.returns-in-Server
returns-in-Server c w past stands =
    subst (λ (node : Node). Ends w past (Cut node) c.cut_server.new.self c.cut_server.result) (sym c.in-Server.is) (c.cut_server.ensures w past stands)

pub returns-in-Client : goal.returns-in-Client
returns-in-Client c w past stands =
    subst (λ (node : Node). Ends w past (Cut node) c.cut_client.new.self c.cut_client.result) (sym c.in-Client.is) (c.cut_client.ensures w past stands)

pub returns-in-Mirror : goal.returns-in-Mirror
returns-in-Mirror c w past stands =
    subst (λ (node : Node). Ends w past (Cut node) c.cut_mirror.new.self c.cut_mirror.result) (sym c.in-Mirror.is) (c.cut_mirror.ensures w past stands)
