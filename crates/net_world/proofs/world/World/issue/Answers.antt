use Rattle.net_world.proofs.EndsLemmas.{issue_ends}
use Rattle.net_world.proofs.world.World.issue.Goals as goal

pub returns : goal.returns
returns c w past stands = issue_ends w past c.args.server c.args.job c.serve.result c.serve.new.self (c.serve.ensures w past stands)
