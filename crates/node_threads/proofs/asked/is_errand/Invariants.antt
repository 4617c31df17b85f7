use Rattle.std.proofs.Common.{◌≡◌, take}
use Rattle.node_threads.specs.Asked.{asked_of_client, errand}
use Rattle.node_threads.proofs.asked.is_errand.Given as goal

abbrev pub invariant-loop-at : goal.invariant-loop-at
invariant-loop-at l = asked_of_client (take l.at l.history.items) ≡ take l.done (errand l.run l.write l.read)
