use Rattle.std.proofs.Common.{◌≡◌}
use Rattle.client_core.specs.Lives.{EachLife}
use Rattle.client_core.specs.Outcomes.{all_ended}
use Rattle.client_core.proofs.life.Life.settled.Given as goal

abbrev pub invariant-loop-server : goal.invariant-loop-server
invariant-loop-server l = EachLife l.self (λ deeds. l.settled ≡ all_ended l.run deeds l.server)
