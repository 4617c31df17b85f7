-- What holds of nodes that are one trace, and of those that agree with their journal. All lists are
-- newest first.
use Rattle.std.specs.Prelude.{◌≡◌, ◌≤◌, ℕ, List, [], ◌∷◌, ◌++◌, length, Some}
use Rattle.fc_base.specs.declared.numbers.Key.{Key}
use Rattle.verify_state.specs.State.{State}
use Rattle.messages.specs.Network.{Network}
use Rattle.server_core.specs.History as server_history
use Rattle.server_core.specs.Hearing.{FrameEntry as ServerEntry, packets_heard as server_heard}
use Rattle.server_core.specs.Accepted.{IsTaking}
use Rattle.server_core.specs.Taken.{takings}
use Rattle.server_core.specs.Check.{With, progress}
use Rattle.client_core.specs.History as client_history
use Rattle.client_core.specs.Hearing.{FrameEntry as ClientEntry, packets_heard as client_heard}
use Rattle.client_core.specs.Words.{kept_state}
use Rattle.net_world.specs.Setup.{without_mirror}
use Rattle.net_world.specs.Trace.{opening_of, client_opening, of_server, of_client, IsTrace}
use Rattle.net_world.specs.Frames.{FrameStep, trace_heard}
use Rattle.net_world.specs.Holders.{Holds}
use Rattle.net_world.specs.Exact.{IsBased}
use Rattle.assembly.specs.Lists.{Lists}
use Rattle.assembly.specs.Names.{IsAssembled}
use Rattle.assembly.specs.Ran.{Ran, history_of}

-- The packets that a server hears in its list of frames.
abbrev pub server_hears : (ℕ → List ServerEntry) → ℕ → List server_history.Entry
server_hears servers s = server_heard (opening_of s) (servers s)

-- The packets that the client of n servers hears.
abbrev pub client_hears : ℕ → List ClientEntry → List client_history.Entry
client_hears n list = client_heard (client_opening (without_mirror n)) list

-- What is heard in the trace is a trace of packets, and of each node it has what the node hears.
pub record IsHeard (n : ℕ) (servers : ℕ → List ServerEntry) (client : List ClientEntry)
    (trace : List FrameStep) : Type 0 where
  pub legal : IsTrace (without_mirror n) (trace_heard (without_mirror n) trace)
  pub servers_are : (s : ℕ) → of_server s (trace_heard (without_mirror n) trace)
      ≡ server_hears servers s
  pub client_is : of_client (without_mirror n) (trace_heard (without_mirror n) trace)
      ≡ client_hears n client

-- The states of a key that its server took.
abbrev pub taken_by : (ℕ → List ServerEntry) → Key → List State
taken_by servers key =
    takings (opening_of key.server) key.run key.job (server_hears servers key.server)

-- Of each job of a run one state was taken at most. Whoever holds one, as the client which keeps
-- it, holds the one that was taken; it counts just the writes that were completed by then; and
-- wherever in its server's list a job is checked with it, no write was issued there since: up to
-- the end of that check.
pub record HoldOneState (n : ℕ) (servers : ℕ → List ServerEntry) (client : List ClientEntry)
    (trace : List FrameStep) : Type 0 where
  pub once : (key : Key) → length (taken_by servers key) ≤ 1
  pub keeps : (key : Key) (state : State)
      → kept_state (client_opening (without_mirror n)) (client_hears n client) key ≡ Some state
      → Holds (without_mirror n) (trace_heard (without_mirror n) trace) key state
  pub held : (key : Key) (state : State)
      → Holds (without_mirror n) (trace_heard (without_mirror n) trace) key state
      → taken_by servers key ≡ state ∷ []
  pub counted : (key : Key) (state : State)
      → Holds (without_mirror n) (trace_heard (without_mirror n) trace) key state
      → IsTaking (opening_of key.server) key.run key.job (server_hears servers key.server) state
  pub quiet :
      (s j : ℕ) (state : State) (later past : List server_history.Entry) →
      server_hears servers s ≡ later ++ past → progress (opening_of s) past j ≡ Some (With state) →
      IsBased s j past state

-- Whatever lists the histories make, and whichever trace of the network's frames they are: its
-- nodes hold one state of each job.
abbrev pub HoldOneStateEach : Ran → Network → Type 0
HoldOneStateEach r net =
    (lists : Lists (length r.servers) (history_of r)) (trace : List FrameStep) →
    IsAssembled (length r.servers) net.frames lists.servers lists.client trace
    → HoldOneState (length r.servers) lists.servers lists.client trace
