-- What holds of all nodes whose histories agree with a legal journal.
use Rattle.std.specs.Prelude.{◌≤◌, ℕ, List}
use Rattle.fc_base.specs.declared.limits.TheConstants.{MAX_SERVERS}
use Rattle.messages.specs.declared.node.Node.{Node}
use Rattle.messages.specs.Network.{Network}
use Rattle.server_core.specs.Hearing.{FrameEntry as ServerEntry}
use Rattle.client_core.specs.Hearing.{FrameEntry as ClientEntry}
use Rattle.cells.specs.declared.entry.HistoryEntry.{HistoryEntry}
use Rattle.net_world.specs.Frames.{FrameStep}
use Rattle.assembly.specs.declared.place.Place.{Place}
use Rattle.messages.specs.Journal.{IsLegal}
use Rattle.assembly.specs.Marks.{AreMarked}
use Rattle.assembly.specs.Lists.{EndAt}
use Rattle.assembly.specs.Orders.{IsMerge, merged_order}
use Rattle.assembly.specs.Names.{IsAssembled, IsOrder}
use Rattle.assembly.specs.Verdict.{IsHeard, HoldOneState}

-- The histories of n servers and of their client agree with a legal journal.
pub record Agree (n : ℕ) (net : Network) (ran : Node → List HistoryEntry) : Type 0 where
  pub few : n ≤ MAX_SERVERS
  pub legal : IsLegal net
  pub ends : EndAt n ran
  pub marked : AreMarked ran net

-- Each order that merges the histories of nodes that agree names one trace.
abbrev pub MergesNameATrace : Type 0
MergesNameATrace =
    (n : ℕ) (net : Network) (ran : Node → List HistoryEntry) (order : List Place) →
    Agree n net ran → IsMerge ran net.journal order → IsOrder n net ran order

-- The order that the journal gives merges them.
abbrev pub MergedOrdersAreMerges : Type 0
MergedOrdersAreMerges =
    (n : ℕ) (net : Network) (ran : Node → List HistoryEntry) →
    Agree n net ran → IsMerge ran net.journal (merged_order n ran net.journal)

-- The order that the journal gives to the histories of nodes that agree names one trace.
abbrev pub AgreeingNodesAreATrace : Type 0
AgreeingNodesAreATrace =
    (n : ℕ) (net : Network) (ran : Node → List HistoryEntry) →
    Agree n net ran → IsOrder n net ran (merged_order n ran net.journal)

-- What is heard in such a trace is a trace of packets.
abbrev pub AssembledAreHeard : Type 0
AssembledAreHeard =
    (n : ℕ) (frames : List (List ℕ)) (servers : ℕ → List ServerEntry) (client : List ClientEntry)
    (trace : List FrameStep) →
    IsAssembled n frames servers client trace → IsHeard n servers client trace

-- The nodes of such a trace hold one state of each job.
abbrev pub AssembledNodesHoldOneState : Type 0
AssembledNodesHoldOneState =
    (n : ℕ) (frames : List (List ℕ)) (servers : ℕ → List ServerEntry) (client : List ClientEntry)
    (trace : List FrameStep) →
    IsAssembled n frames servers client trace → HoldOneState n servers client trace
