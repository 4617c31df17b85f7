-- What the client of a fleet has heard of its checks.
use Rattle.std.specs.Prelude.{◌≡◌, ℕ, List}
use Rattle.client_core.specs.declared.received.Received.{Received}
use Rattle.client_core.specs.Hearing.{FrameEntry, packets_heard}
use Rattle.client_core.specs.Life.{life}
use Rattle.client_core.specs.Reports.{reports}
use Rattle.client_core.specs.Words.{shown_entries, words_noted}
use Rattle.cells.specs.ClientCells.{ClientLog, IsReplay}
use Rattle.node_threads.specs.declared.ends.CheckEnd.{CheckEnd}
use Rattle.node_threads.specs.declared.left.FleetLeft.{FleetLeft}
use Rattle.node_threads.specs.Asked.{IsAsked}
use Rattle.node_threads.specs.Ends.{AreEnds}
use Rattle.node_threads.specs.OneRun.{IsOneRun}

-- By its history, a client has begun this attempt last, and these reports have come.
pub record HasHeard (client : ClientLog) (attempt : ℕ) (came : List Received) : Type 0 where
  pub past : List FrameEntry
  pub replay : IsReplay client past
  pub attempt_is : attempt ≡ (words_noted client.opening
      (shown_entries (packets_heard client.opening past))).attempts
  pub reports_are : came ≡ reports (life client.opening
      (shown_entries (packets_heard client.opening past)))

-- The ends of so many servers are what the client that is left has heard in its last attempt.
pub record AreHeard (left : FleetLeft) (servers : ℕ) (ends : List CheckEnd) : Type 0 where
  pub attempt : ℕ
  pub came : List Received
  pub heard : HasHeard left.client attempt came
  pub ends_are : AreEnds left.servers.items came attempt servers ends

-- The ends of so many servers are what the client has heard in one run, which it was asked to begin
-- and to verify by these texts.
pub record AreOfOneRun (servers : ℕ) (write read : List ℕ) (ends : List CheckEnd) : Type 0 where
  pub left : FleetLeft
  pub one_run : IsOneRun left
  pub asked : IsAsked left.client write read
  pub heard : AreHeard left servers ends
