use Rattle.filters.proofs.ServerCutLemmas.{lives_go_on}
use Rattle.filters.proofs.server_law.server_cut_law.Goals as goal

pub returns : goal.returns
returns c = lives_go_on
