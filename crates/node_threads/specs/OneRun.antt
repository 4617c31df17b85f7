-- What is left of a fleet is one run.
use Rattle.std.specs.Prelude.{length, reverse}
use Rattle.assembly.specs.Names.{IsOrder}
use Rattle.assembly.specs.Ran.{ran_of, history_of}
use Rattle.assembly.specs.Verdict.{HoldOneStateEach}
use Rattle.node_threads.specs.declared.left.FleetLeft.{FleetLeft}

-- The order names one trace of the world, in which just the nodes' histories come to them, and the
-- frames are the network's; and the nodes hold one state of each job.
pub record IsOneRun (left : FleetLeft) : Type 0 where
  pub order : IsOrder (length left.servers.items) left.hub.net
      (history_of (ran_of left.client left.servers.items)) (reverse left.order.items)
  pub state : HoldOneStateEach (ran_of left.client left.servers.items) left.hub.net
