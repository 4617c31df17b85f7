-- The packets that came to a server in this life.
use Rattle.std.specs.Prelude.{◌≡◌, ℕ, ◌<◌, true, List, [], ◌∷◌, length, Some, None, Contains}
use Rattle.verify_state.specs.State.{State}
use Rattle.messages.specs.declared.body.Body.TheVariants.{Saved, StateAck}
use Rattle.messages.specs.declared.node.Node.TheVariants.{Server, Client}
use Rattle.messages.specs.declared.packet.PacketParts.{PacketParts}
use Rattle.server_core.specs.Inputs.{PacketInput}
use Rattle.server_core.specs.declared.input.Input.TheVariants.{Deliver, Issue, WriteDone, CheckDone}
use Rattle.server_core.specs.History.{Opening, Entry, Met, Cut, Restart}
use Rattle.server_core.specs.Words.{last_run, work}
use Rattle.server_core.specs.Run.{Work, halt_of}
use Rattle.server_core.specs.Answers.{wants_cut, check_job}
use Rattle.job_file.specs.declared.job.Job.{Job}
use Rattle.verify_state.specs.Misfit.{misfit}

-- The packet of an input that delivers one, before older ones.
abbrev pub heard_with : PacketInput → List PacketParts → List PacketParts
heard_with (Deliver p) older = p ∷ older
heard_with (Issue j) older = older
heard_with (WriteDone ticket end) older = older
heard_with (CheckDone boot a j report) older = older

-- The packets that came to a server since its last cut or restart, the newest first.
abbrev pub heard_packets : List Entry → List PacketParts
heard_packets [] = []
heard_packets (Met e left ∷ past) = heard_with e (heard_packets past)
heard_packets (Cut ∷ past) = []
heard_packets (Restart left ∷ past) = []

-- A state of the last run, of this server and job, which fits the job and which the client sent in
-- this life.
pub record IsHeard (opening : Opening) (past : List Entry) (j : ℕ) (state : State) : Type 0 where
  pub key : state.key ≡ record { run = last_run opening past; server = opening.me; job = j }
  pub job : Job
  pub is_job : check_job opening past j ≡ Some job
  pub fits : misfit state state.key job.rec ≡ None
  pub attempt : ℕ
  pub sent :
      Contains (heard_packets past)
      (record { from = Client; to = Server opening.me; body = Saved attempt state })

-- The present run was taken by a Trigger that asks for the cut, and with this input the client has
-- told of each of its jobs that its state is kept, or needn't be.
pub record AreStatesKept (opening : Opening) (past : List Entry) (e : PacketInput) : Type 0 where
  pub now : Work
  pub works : work opening past ≡ Some now
  pub wants : wants_cut (halt_of now.run now.since) ≡ true
  pub kept :
      (j : ℕ) → j < length now.jobs
      → Contains (heard_with e (heard_packets past))
      (record { from = Client; to = Server opening.me; body = StateAck now.run j })
