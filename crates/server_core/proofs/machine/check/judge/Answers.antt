use Rattle.server_core.proofs.HeldChecks.{judged_there}
use Rattle.server_core.proofs.machine.check.judge.Goals as goal

pub returns-in-Some-clause-there : goal.returns-in-Some-clause-there
returns-in-Some-clause-there c =
    judged_there c.judge.result c.args.me c.args.check.now c.in-Some.check c.args.attempt c.args.state.now c.in-Some.is c.judge.ensures
