use Rattle.server_core.specs.Hearing.{packets_heard}
use Rattle.server_core.proofs.server.Server.restart.Goals as goal

pub returns : goal.returns
returns g c =
    let opened = c.in_ok-core.ensures in
    record {
      said = opened.said;
      says = opened.says;
      leaves = opened.leaves;
      stands = λ o past me says. record { core = opened.stands o (packets_heard o past) me says; pieces = λ on. c.new-pieces.ensures };
    }
