use Rattle.std.proofs.Common.{refl}
use Rattle.assembly.proofs.example.followed_by_hand.Goals as goal

pub returns-clause-agree : goal.returns-clause-agree
returns-clause-agree c = (refl, refl)

pub returns-clause-order : goal.returns-clause-order
returns-clause-order c = refl
