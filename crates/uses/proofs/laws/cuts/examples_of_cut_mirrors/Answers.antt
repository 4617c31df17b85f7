use Rattle.uses.proofs.MirrorCutLemmas as lemmas
use Rattle.uses.proofs.laws.cuts.examples_of_cut_mirrors.Goals as goal

pub returns : goal.returns
returns c =
    lemmas.mirror_is_cut c.lengths_are_bounded.ensures c.frames_are_read_back.ensures c.notes_are_read_back.ensures c.mirror_cut_law.ensures
