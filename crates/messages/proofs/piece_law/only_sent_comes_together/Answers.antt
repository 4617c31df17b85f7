use Rattle.messages.proofs.Assembled.{only_sent_comes_together}
use Rattle.messages.proofs.OnlySent.{only_sent_is_given}
use Rattle.messages.proofs.piece_law.only_sent_comes_together.Goals as goal

pub returns-clause-step : goal.returns-clause-step
returns-clause-step c = only_sent_comes_together c.one_spelling.ensures.reads_back

pub returns-clause-all : goal.returns-clause-all
returns-clause-all c = only_sent_is_given c.one_spelling.ensures.reads_back
