use Rattle.uses.proofs.ServerCutLemmas as lemmas
use Rattle.uses.proofs.laws.cuts.examples_of_cut_servers.Goals as goal

pub returns : goal.returns
returns c = lemmas.server_is_cut c.frames_are_read_back.ensures c.server_cut_law.ensures
