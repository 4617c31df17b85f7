use Rattle.messages.proofs.LawLemmas.{none_begins_another}
use Rattle.messages.proofs.law.no_spelling_begins_another.Goals as goal

pub returns : goal.returns
returns c = none_begins_another c.one_spelling.ensures.reads_back
