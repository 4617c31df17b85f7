use Rattle.net_world.proofs.PassLemmas as lemmas
use Rattle.net_world.proofs.passes.sent_states_were_taken.Goals as goal

pub returns : goal.returns
returns c = lemmas.sent_states_were_taken c.the_taken.ensures.sent c.packets_go_to_peers.ensures c.packets_go_to_the_client.ensures
