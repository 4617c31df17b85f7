use Rattle.filters.proofs.ClientCutLemmas.{lives_go_on, renewals_go_on}
use Rattle.filters.proofs.law.cut_law.Goals as goal

pub returns-clause-lives : goal.returns-clause-lives
returns-clause-lives c = lives_go_on

pub returns-clause-renewals : goal.returns-clause-renewals
returns-clause-renewals c = renewals_go_on c.one_note.ensures c.notes_are_read_back.ensures
