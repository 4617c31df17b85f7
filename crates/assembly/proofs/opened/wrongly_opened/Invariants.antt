use Rattle.assembly.proofs.OpenedLemmas.{AreOpened}
use Rattle.assembly.proofs.opened.wrongly_opened.Given as goal

abbrev pub invariant-loop-number : goal.invariant-loop-number
invariant-loop-number g l = AreOpened l.servers l.number
