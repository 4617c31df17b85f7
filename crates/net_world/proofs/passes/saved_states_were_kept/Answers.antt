use Rattle.net_world.proofs.PassLemmas as lemmas
use Rattle.net_world.proofs.passes.saved_states_were_kept.Goals as goal

pub returns : goal.returns
returns c = lemmas.saved_states_were_kept c.packets_go_to_client.ensures c.packets_go_to_the_client.ensures c.saved_is_kept.ensures
