use Rattle.client_core.specs.Answers.{input_of}
use Rattle.net_world.proofs.ClientPowerLemmas.{weak}
use Rattle.net_world.proofs.ClientStepLemmas.{took}
use Rattle.net_world.proofs.client_node.asks.ask.Goals as goal

pub returns : goal.returns
returns c o past s =
    took o past (input_of c.args.input) c.step.result c.args.node.now c.step.new.self s (c.step.ensures o past (weak o past c.args.node.now s))
