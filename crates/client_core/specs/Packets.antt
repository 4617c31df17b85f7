-- The packets that a client sends.
use Rattle.std.specs.Prelude.{ℕ, ◌+◌, Bool, true, false, not, ◌&&◌, ◌||◌, ◌==◌, nat_lt, if◌then◌else◌, List, [], ◌∷◌, ◌++◌, map, Option, Some, None}
use Rattle.std.specs.List.{flat_map}
use Rattle.fc_base.specs.declared.numbers.Key.{Key}
use Rattle.fc_base.specs.Counted.{numbers_below}
use Rattle.fc_base.specs.Keys.{is_same_key}
use Rattle.verify_state.specs.State.{State}
use Rattle.messages.specs.declared.packet.PacketParts.{PacketParts}
use Rattle.messages.specs.declared.body.Body.{Body}
use Rattle.messages.specs.declared.body.Body.TheVariants as bodies
use Rattle.messages.specs.declared.node.Node.TheVariants as nodes
use Rattle.messages.specs.declared.refusal.RefusedRequest.{RefusedRequest}
use Rattle.messages.specs.declared.refusal.RefusedRequest.TheVariants as asks
use Rattle.messages.specs.declared.refusal.Reason.{Reason}
use Rattle.messages.specs.declared.refusal.Reason.TheVariants as reasons
use Rattle.messages.specs.Nodes.{node_number}
use Rattle.client_core.specs.Inputs.{PacketInput, Begin, Trigger, Stop, Verify, Deliver, Tick}
use Rattle.verify_state.specs.StateTable.{kept_of}
use Rattle.client_core.specs.declared.note.ClientNote.{ClientNote}
use Rattle.client_core.specs.declared.peers.Peers.{Peers}
use Rattle.client_core.specs.History.{Opening, Entry, Met, Cut, Restart, Renew, Lose}
use Rattle.client_core.specs.Words.{words_noted, peers, is_answered}
use Rattle.client_core.specs.Life.{Deed, Hears, life, text_of, act_of, run_of, check_of}
use Rattle.client_core.specs.declared.beginning.Beginning.TheVariants as begins
use Rattle.client_core.specs.declared.beginning.Beginning.{Beginning}
use Rattle.client_core.specs.Asked.{rising, runs_of, attempts_of}
use Rattle.client_core.specs.Begins.{begin_at}
use Rattle.client_core.specs.Requests as requests
use Rattle.client_core.specs.Requests.{Request, trigger_at, stop_at, verify_at}

-- A packet of the client to a server.
abbrev pub to_server : Body → ℕ → PacketParts
to_server body server = record { from = nodes.Client; to = nodes.Server server; body = body }

-- The packets that say the same to every server, in their order.
abbrev pub to_all : ℕ → Body → List PacketParts
to_all servers body = map (to_server body) (numbers_below servers)

-- A packet of the client to the mirror.
abbrev pub to_mirror : Body → PacketParts
to_mirror body = record { from = nodes.Client; to = nodes.Mirror; body = body }

-- The start of a run, where its jobs were open.
abbrev pub start_for : ℕ → ℕ → Beginning → List PacketParts
start_for run server begins.Staging = to_server (bodies.Start run) server ∷ []
start_for run server _ = []

-- The jobs of a run again, where its start was open.
abbrev pub jobs_once_more : ℕ → List ℕ → ℕ → Beginning → List PacketParts
jobs_once_more run text server begins.Starting = to_server (bodies.Jobs run text) server ∷ []
jobs_once_more run text server _ = []

-- The server has no jobs of the run that it is to start.
abbrev pub lacks_jobs : RefusedRequest → Reason → Bool
lacks_jobs asks.Start reasons.NoJobs = true
lacks_jobs _ _ = false

-- The kept state that a check asks for, or that there is none.
abbrev pub state_for : ℕ → ℕ → ℕ → ℕ → Option State → PacketParts
state_for run attempt job server (Some state) = to_server (bodies.Saved attempt state) server
state_for run attempt job server None = to_server (bodies.NoSaved run attempt job) server

-- A state that wasn't kept before goes to the mirror, where there is one.
abbrev pub copy_for : Bool → State → Option State → List PacketParts
copy_for true state None = to_mirror (bodies.Copy state) ∷ []
copy_for _ state _ = []

-- What is replied to a server, by what was kept and done before. Nothing is replied to the mirror.
abbrev pub replies : Bool → ClientNote → List Deed → ℕ → Body → List PacketParts
replies mirror n deeds server (bodies.JobsOk run jobs) =
    start_for run server (begin_at run server deeds)
replies mirror n deeds server (bodies.State jobs state) =
    to_server (bodies.StateAck state.key.run state.key.job) server
    ∷ copy_for mirror state (kept_of state.key n.kept)
replies mirror n deeds server (bodies.NoState run job jobs) =
    to_server (bodies.StateAck run job) server ∷ []
replies mirror n deeds server (bodies.WantState run attempt job) =
    state_for run attempt job server
    (kept_of (record { run = run; server = server; job = job }) n.kept) ∷ []
replies mirror n deeds server (bodies.Refused r) =
    if lacks_jobs r.asked r.reason
    then jobs_once_more r.run (text_of r.run deeds) server (begin_at r.run server deeds) else []
replies mirror n deeds server _ = []

-- An open begin again: the jobs, or the start.
abbrev pub begin_again : ℕ → List ℕ → ℕ → Beginning → List PacketParts
begin_again run text server begins.Staging = to_server (bodies.Jobs run text) server ∷ []
begin_again run text server begins.Starting = to_server (bodies.Start run) server ∷ []
begin_again run text server _ = []

-- Another open request again.
abbrev pub packets_again : Body → ℕ → Request → List PacketParts
packets_again body server (requests.Open told) = to_server body server ∷ []
packets_again body server _ = []

-- The open requests of a run: its begin, its trigger and its stop, each by server.
abbrev pub run_again : ℕ → List Deed → ℕ → List PacketParts
run_again servers deeds run =
    flat_map (λ s. begin_again run (text_of run deeds) s (begin_at run s deeds))
    (numbers_below servers)
    ++ (flat_map (λ s. packets_again (bodies.Trigger run (act_of run deeds)) s
    (trigger_at run s deeds))
    (numbers_below servers)
    ++ flat_map (λ s. packets_again (bodies.Stop run) s (stop_at run s deeds))
    (numbers_below servers))

-- The open verifies of an attempt, by server.
abbrev pub attempt_again : ℕ → List Deed → ℕ → List PacketParts
attempt_again servers deeds attempt =
    flat_map (λ s. packets_again (bodies.Verify (run_of attempt deeds) attempt
    (check_of attempt deeds)) s
    (verify_at attempt s deeds)) (numbers_below servers)

-- Every open request again: by run, and then the verifies by attempt.
abbrev pub requests_again : ℕ → List Deed → List PacketParts
requests_again servers deeds =
    flat_map (run_again servers deeds) (rising (runs_of deeds))
    ++ flat_map (attempt_again servers deeds) (rising (attempts_of deeds))

-- The mirror is asked for a grant of the generation, until it gives it.
abbrev pub fetch_again : Peers → ℕ → List PacketParts
fetch_again peers generation =
    if peers.mirror && (nat_lt 0 generation && not peers.granted)
    then to_mirror (bodies.Fetch generation) ∷ [] else []

-- A body says that the state of this key is kept.
abbrev pub says_kept : Key → Body → Bool
says_kept key (bodies.CopyOk run server job) =
    is_same_key (record { run = run; server = server; job = job }) key
says_kept key _ = false

-- The mirror said in this life that it keeps the state of this key.
abbrev pub is_copied : Key → List Deed → Bool
is_copied key [] = false
is_copied key (Hears node body ∷ deeds) =
    ((node == node_number nodes.Mirror) && says_kept key body) || is_copied key deeds
is_copied key (_ ∷ deeds) = is_copied key deeds

-- A kept state goes to the mirror until this has said that it keeps it.
abbrev pub copy_again : List Deed → State → List PacketParts
copy_again deeds state =
    if is_copied state.key deeds then [] else to_mirror (bodies.Copy state) ∷ []

-- The kept states that the mirror isn't known to keep, in order of arrival.
abbrev pub copies_again : Bool → List State → List Deed → List PacketParts
copies_again mirror states deeds = if mirror then flat_map (copy_again deeds) states else []

-- The grant, the requests and the copies.
abbrev pub all_again : Peers → ClientNote → List Deed → List PacketParts
all_again peers n deeds =
    fetch_again peers n.generation
    ++ (requests_again peers.servers deeds ++ copies_again peers.mirror n.kept deeds)

-- What an answered call sends, by what was noted and done before it.
abbrev pub packets_for : Peers → ClientNote → List Deed → PacketInput → List PacketParts
packets_for peers n deeds (Begin text) = to_all peers.servers (bodies.Jobs (n.runs + 1) text)
packets_for peers n deeds (Trigger run act) = to_all peers.servers (bodies.Trigger run act)
packets_for peers n deeds (Stop run) = to_all peers.servers (bodies.Stop run)
packets_for peers n deeds (Verify run text) =
    to_all peers.servers (bodies.Verify run (n.attempts + 1) text)
packets_for peers n deeds (Deliver p) = replies peers.mirror n deeds (node_number p.from) p.body
packets_for peers n deeds Tick = all_again peers n deeds

-- The packets that an event sends.
abbrev pub packets : Opening → List Entry → Entry → List PacketParts
packets opening past (Met c left) =
    if is_answered opening past c left
    then packets_for (peers opening past) (words_noted opening past)
    (life opening past) c else []
packets opening past Cut = []
packets opening past (Restart mirror) = []
packets opening past (Renew g left) = []
packets opening past Lose = []

-- All packets that were ever sent, the oldest first.
abbrev pub sent_packets : Opening → List Entry → List PacketParts
sent_packets opening [] = []
sent_packets opening (entry ∷ past) = sent_packets opening past ++ packets opening past entry
