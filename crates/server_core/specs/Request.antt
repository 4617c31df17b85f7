-- What an input asks of a server.
use Rattle.std.specs.Prelude.{ℕ, ◌&&◌, List, if◌then◌else◌}
use Rattle.fc_base.specs.declared.report.ReportParts.{ReportParts}
use Rattle.verify_state.specs.State.{State}
use Rattle.engine.specs.declared.issue.Ticket.{Ticket}
use Rattle.messages.specs.Nodes.{is_client, is_server}
use Rattle.messages.specs.declared.body.Body.{Body}
use Rattle.messages.specs.declared.body.Body.TheVariants as bodies
use Rattle.messages.specs.declared.refusal.Act.{Act}
use Rattle.server_core.specs.Inputs.{PacketInput}
use Rattle.server_core.specs.declared.input.Input.TheVariants.{Deliver, Issue, WriteDone, CheckDone}
use Rattle.server_core.specs.declared.input.WriteEnd.{WriteEnd}

-- What an input asks of a server, where it is for it.
pub data Request : Type 0 where
  ToStage : ℕ → List ℕ → Request  -- this text for this run
  ToStart : ℕ → Request  -- this run
  ToTrigger : ℕ → Act → Request  -- this run, and what to do once its states are kept
  ToMark : ℕ → ℕ → Request  -- the state of this run's job is kept
  ToStop : ℕ → Request  -- this run
  ToVerify : ℕ → ℕ → List ℕ → Request  -- this run, in this attempt, by this text
  ToHold : ℕ → State → Request  -- in this attempt, this state
  ToPassFully : ℕ → ℕ → Request  -- in this attempt, this job
  ToIssue : ℕ → Request  -- a write of this job
  ToEnd : Ticket → WriteEnd → Request  -- this write, in this way
  ToReport : ℕ → ℕ → ℕ → ReportParts → Request  -- in this boot and attempt, of this job
  ToNobody : Request  -- it is not for this server

-- What a packet of the client asks. The kinds that servers send, and those for a mirror, ask
-- nothing of one.
abbrev pub request_in : Body → Request
request_in (bodies.Jobs run text) = ToStage run text
request_in (bodies.Start run) = ToStart run
request_in (bodies.Trigger run act) = ToTrigger run act
request_in (bodies.StateAck run job) = ToMark run job
request_in (bodies.Stop run) = ToStop run
request_in (bodies.Verify run attempt text) = ToVerify run attempt text
request_in (bodies.Saved attempt state) = ToHold attempt state
request_in (bodies.NoSaved run attempt job) = ToPassFully attempt job
request_in _ = ToNobody

-- What an input asks of the server with this number. A packet that isn't for it, or isn't from the
-- client, asks nothing.
abbrev pub request_of : ℕ → PacketInput → Request
request_of me (Deliver p) =
    if is_client p.from && is_server me p.to then request_in p.body else ToNobody
request_of me (Issue job) = ToIssue job
request_of me (WriteDone ticket end) = ToEnd ticket end
request_of me (CheckDone boot attempt job report) = ToReport boot attempt job report
