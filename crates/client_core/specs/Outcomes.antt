-- How the requests of a client stand, as it tells it.
use Rattle.std.specs.Prelude.{ℕ, Bool, true, false, nat_lt, if◌then◌else◌, List}
use Rattle.std.specs.List.{list_all}
use Rattle.fc_base.specs.Counted.{numbers_below}
use Rattle.client_core.specs.declared.outcome.Outcome.{Outcome}
use Rattle.client_core.specs.declared.outcome.Outcome.TheVariants as outcomes
use Rattle.client_core.specs.declared.outcome.RequestKind.{RequestKind}
use Rattle.client_core.specs.declared.outcome.RequestKind.TheVariants as kinds
use Rattle.client_core.specs.History.{Opening, Entry}
use Rattle.client_core.specs.Life.{Deed, life}
use Rattle.client_core.specs.declared.beginning.Beginning.TheVariants as begins
use Rattle.client_core.specs.declared.beginning.Beginning.{Beginning}
use Rattle.client_core.specs.Begins.{begin_at}
use Rattle.client_core.specs.Requests as requests
use Rattle.client_core.specs.Requests.{Request, trigger_at, stop_at, verify_at}

-- How a begin stands.
abbrev pub begin_outcome : Beginning → Outcome
begin_outcome begins.Unbegun = outcomes.None
begin_outcome begins.Staging = outcomes.Open
begin_outcome begins.Starting = outcomes.Open
begin_outcome begins.Started = outcomes.Good
begin_outcome (begins.Denied reason) = outcomes.Refused reason

-- How another request stands.
abbrev pub request_outcome : Request → Outcome
request_outcome requests.Unasked = outcomes.None
request_outcome (requests.Open told) = outcomes.Open
request_outcome requests.Served = outcomes.Good
request_outcome (requests.Denied reason) = outcomes.Refused reason

-- How the request of this kind and number stands at a server.
abbrev pub outcome_at : RequestKind → ℕ → ℕ → List Deed → Outcome
outcome_at kinds.Begin run server deeds = begin_outcome (begin_at run server deeds)
outcome_at kinds.Trigger run server deeds = request_outcome (trigger_at run server deeds)
outcome_at kinds.Stop run server deeds = request_outcome (stop_at run server deeds)
outcome_at kinds.Verify attempt server deeds = request_outcome (verify_at attempt server deeds)

-- How a request of the client stands at a server: there is none at one that the client doesn't
-- drive.
abbrev pub outcome : Opening → List Entry → RequestKind → ℕ → ℕ → Outcome
outcome opening past kind number server =
    if nat_lt server opening.servers then outcome_at kind number server (life opening past)
    else outcomes.None

-- The request has ended, well or not.
abbrev pub has_ended : Outcome → Bool
has_ended outcomes.None = false
has_ended outcomes.Open = false
has_ended outcomes.Good = true
has_ended (outcomes.Refused reason) = true

-- The trigger of a run has ended at each of so many servers.
abbrev pub all_ended : ℕ → List Deed → ℕ → Bool
all_ended run deeds servers =
    list_all (λ server. has_ended (request_outcome (trigger_at run server deeds)))
    (numbers_below servers)

-- The trigger of a run has ended at every server: a local trigger waits for it.
abbrev pub is_settled : Opening → List Entry → ℕ → Bool
is_settled opening past run = all_ended run (life opening past) opening.servers
