use Rattle.client_core.proofs.FewLemmas.{packets_are_few}
use Rattle.client_core.proofs.law.packets_are_few.Goals as goal

pub returns : goal.returns
returns c = packets_are_few
