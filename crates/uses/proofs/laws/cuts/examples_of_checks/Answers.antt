use Rattle.std.proofs.Common.{refl, arith}
use Rattle.write_order.specs.Stamps.{counting_bytes, stamped_sector}
use Rattle.uses.proofs.ServerLossLemmas as lemmas
use Rattle.uses.proofs.laws.cuts.examples_of_checks.Goals as goal

pub returns-clause-survive : goal.returns-clause-survive
returns-clause-survive c = lemmas.all_survive c.server_loss_law.ensures.faults c.server_loss_law.ensures.survivors

pub returns-clause-lost : goal.returns-clause-lost
unfolding stamped_sector counting_bytes
returns-clause-lost c = lemmas.one_is_lost _ refl (omega arith) c.server_loss_law.ensures.listed c.server_loss_law.ensures.losses
