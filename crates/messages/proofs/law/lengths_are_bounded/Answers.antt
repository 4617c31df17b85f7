use Rattle.messages.proofs.LawLemmas.{lengths_are_bounded}
use Rattle.messages.proofs.law.lengths_are_bounded.Goals as goal

pub returns : goal.returns
returns c = lengths_are_bounded c.one_spelling.ensures.reads_back
