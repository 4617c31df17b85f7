use Rattle.client_core.proofs.KeptLemmas.{kept_was_sent}
use Rattle.client_core.proofs.SourceLemmas.{noted_was_sent}
use Rattle.client_core.proofs.law.kept_was_sent.Goals as goal

pub returns-clause-kept : goal.returns-clause-kept
returns-clause-kept c = kept_was_sent c.found_after_a_push.ensures.only

pub returns-clause-noted : goal.returns-clause-noted
returns-clause-noted c = noted_was_sent
