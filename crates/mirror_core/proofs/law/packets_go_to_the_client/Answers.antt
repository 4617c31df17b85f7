use Rattle.mirror_core.proofs.SentLemmas.{packets_go_to_the_client}
use Rattle.mirror_core.proofs.law.packets_go_to_the_client.Goals as goal

pub returns : goal.returns
returns c = packets_go_to_the_client
