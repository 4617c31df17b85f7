use Rattle.net_world.proofs.StandLemmas as lemmas
use Rattle.net_world.proofs.frame_law.servers_stand.Goals as goal

pub returns : goal.returns
returns c = lemmas.servers_stand
