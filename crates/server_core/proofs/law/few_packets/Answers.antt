use Rattle.server_core.proofs.FewLemmas.{packets_few}
use Rattle.server_core.proofs.law.few_packets.Goals as goal

pub returns : goal.returns
returns c = packets_few c.legal_histories.ensures.texts c.legal_histories.ensures.runs c.legal_histories.ensures.checks
