use Rattle.server_core.proofs.SentLemmas as lemmas
use Rattle.server_core.proofs.sent_law.packets_go_to_client.Goals as goal

pub returns : goal.returns
returns c = lemmas.packets_go_to_client
