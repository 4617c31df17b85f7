use Rattle.client_core.proofs.SentLemmas.{packets_go_to_peers}
use Rattle.client_core.proofs.law.packets_go_to_peers.Goals as goal

pub returns : goal.returns
returns c = packets_go_to_peers
