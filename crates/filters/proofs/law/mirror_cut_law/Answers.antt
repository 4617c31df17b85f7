use Rattle.filters.proofs.MirrorCutLemmas.{lives_go_on}
use Rattle.filters.proofs.law.mirror_cut_law.Goals as goal

pub returns : goal.returns
returns c = lives_go_on
