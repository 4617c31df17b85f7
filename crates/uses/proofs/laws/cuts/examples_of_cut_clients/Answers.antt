use Rattle.uses.proofs.ClientCutLemmas as lemmas
use Rattle.uses.proofs.laws.cuts.examples_of_cut_clients.Goals as goal

pub returns-clause-lives : goal.returns-clause-lives
returns-clause-lives c =
    lemmas.client_is_cut c.lengths_are_bounded.ensures c.frames_are_read_back.ensures c.notes_are_read_back.ensures c.cut_law.ensures.lives

pub returns-clause-renewals : goal.returns-clause-renewals
returns-clause-renewals c = lemmas.renewal_is_cut c.cut_law.ensures.renewals
