-- What a server answers in a few lists that can be followed by hand.
use Rattle.std.specs.Prelude.{◌≡◌, ℕ, List, [], ◌∷◌, codes, map, is_some, Option, Some, if◌then◌else◌}
use Rattle.std.specs.Option.{option_map}
use Rattle.fc_base.specs.declared.fault.Fault.TheVariants.{OldBoot}
use Rattle.verify_state.specs.State.{State as SavedState}
use Rattle.engine.specs.declared.issue.Ticket.{Ticket}
use Rattle.engine.specs.declared.issue.Issue.TheVariants as issues
use Rattle.messages.specs.declared.body.Body.{Body}
use Rattle.messages.specs.declared.body.Body.TheVariants as bodies
use Rattle.messages.specs.declared.node.Node.TheVariants.{Server, Client}
use Rattle.messages.specs.declared.refusal.Act.TheVariants as acts
use Rattle.messages.specs.declared.refusal.RefusedRequest.TheVariants as asks
use Rattle.messages.specs.declared.refusal.Reason.TheVariants as reasons
use Rattle.disk_model.specs.declared.save_outcome.SaveOutcome.{SaveOutcome}
use Rattle.disk_model.specs.declared.save_outcome.SaveOutcome.TheVariants.{NoSave, Saved, LostNew, LostOld}
use Rattle.server_core.specs.Inputs.{PacketInput}
use Rattle.server_core.specs.declared.input.Input.TheVariants.{Deliver, Issue, WriteDone}
use Rattle.server_core.specs.declared.input.WriteEnd.TheVariants.{Done, Failed}
use Rattle.server_core.specs.History.{Opening, Entry, Met, Cut, Restart}
use Rattle.server_core.specs.Words.{due}
use Rattle.server_core.specs.Taken.{state_taken}
use Rattle.server_core.specs.Answers.{refusal, packets, issue, act}
use Rattle.server_core.specs.Replies.{refuse}

-- Server 0 with an empty note.
abbrev pub blank : Opening
blank = record { me = 0; boot = 0; last = 0 }

-- A job of two blocks of 512 bytes, with two writes in flight at most.
abbrev pub writing_text : List ℕ
writing_text = codes "[a]\nrw=write\nbs=512\nsize=1k\niodepth=2\n"

-- A job that checks two blocks of 512 bytes by its state.
abbrev pub reading_text : List ℕ
reading_text = codes "[a]\nrw=read\nbs=512\nsize=1k\niodepth=2\nverify_state_load=1\n"

-- The client says this to server 0.
abbrev pub client_says : Body → PacketInput
client_says b = Deliver (record { from = Client; to = Server 0; body = b })

-- An input that is answered: it saves where it has something to save.
abbrev pub answered_entry : List Entry → PacketInput → Entry
answered_entry past e = Met e (if is_some (due blank past e) then Saved else NoSave)

-- The list of these inputs, the newest first, behind these entries.
abbrev pub with_inputs : List Entry → List PacketInput → List Entry
with_inputs past [] = past
with_inputs past (e ∷ es) = answered_entry (with_inputs past es) e ∷ with_inputs past es

-- What is sent in answer to an input.
abbrev pub sent_bodies : List Entry → PacketInput → List Body
sent_bodies past e = map (λ p. p.body) (packets blank past (answered_entry past e))

-- The client asks to stage run 1.
abbrev pub stage : PacketInput
stage = client_says (bodies.Jobs 1 writing_text)

-- The client asks to start run 1.
abbrev pub start : PacketInput
start = client_says (bodies.Start 1)

-- The client asks to check run 1, in attempt 1.
abbrev pub verify : PacketInput
verify = client_says (bodies.Verify 1 1 reading_text)

-- The server was restarted, and run 1 was staged.
abbrev pub after_stage : List Entry
after_stage = with_inputs (Restart Saved ∷ []) (stage ∷ [])

-- The save of its Start failed, and the server was restarted.
abbrev pub after_lost_start : SaveOutcome → List Entry
after_lost_start left = Restart Saved ∷ (Met start left ∷ after_stage)

-- The server was restarted, and run 1 was staged and started.
abbrev pub after_start : List Entry
after_start = with_inputs after_stage (start ∷ [])

-- The ticket of write k of run 1, in boot 1.
abbrev pub ticket : ℕ → Ticket
ticket k = record { boot = 1; key = record { run = 1; server = 0; job = 0 }; seq = k; block = k }

-- Both writes were issued, and the first is done.
abbrev pub after_writes : List Entry
after_writes = with_inputs after_start (WriteDone (ticket 0) Done ∷ Issue 0 ∷ Issue 0 ∷ [])

-- The server was then cut off and restarted.
abbrev pub after_cut : List Entry
after_cut = Restart Saved ∷ (Cut ∷ after_writes)

-- A Trigger that asks for the cut.
abbrev pub trigger : PacketInput
trigger = client_says (bodies.Trigger 1 acts.Cut)

-- The client tells that the state is kept.
abbrev pub mark : PacketInput
mark = client_says (bodies.StateAck 1 0)

-- Run 1 is staged and started, and its writes are issued in turn.
pub record StartsAndIssues : Type 0 where
  pub stages : sent_bodies (Restart Saved ∷ []) stage ≡ bodies.JobsOk 1 1 ∷ []
  pub starts : sent_bodies after_stage start ≡ bodies.Started 1 ∷ []
  pub again : sent_bodies after_start start ≡ bodies.Started 1 ∷ []
  pub write : issue blank after_start (Issue 0) ≡ Some (issues.Write (ticket 0))
  pub done : issue blank after_writes (Issue 0) ≡ Some issues.Finished

-- The state that is taken counts the write that is done. Once it is taken it stays, though the
-- other write completes; the client's mark asks for the cut, and a second one doesn't.
pub record TakesOnce : Type 0 where
  pub counts :
      option_map (λ (s : SavedState). s.counted)
      (state_taken blank (with_inputs after_writes (trigger ∷ [])) 0)
      ≡ Some (0 ∷ [])
  pub stays :
      sent_bodies (with_inputs after_writes (WriteDone (ticket 1) Done ∷ trigger ∷ [])) trigger
      ≡ sent_bodies after_writes trigger
  pub cut : act blank (with_inputs after_writes (trigger ∷ [])) mark ≡ acts.Cut
  pub once : act blank (with_inputs after_writes (mark ∷ trigger ∷ [])) mark ≡ acts.None

-- Behind a cut and a restart the run is gone, its Start is old, and its tickets are of an older
-- boot.
pub record ForgetsByACut : Type 0 where
  pub trigger_gone : sent_bodies after_cut trigger ≡ refuse asks.Trigger reasons.Gone 1 0 1
  pub start_old : sent_bodies after_cut start ≡ refuse asks.Start reasons.Old 1 0 1
  pub ticket_old : refusal blank after_cut (WriteDone (ticket 1) Done) ≡ Some OldBoot

-- A Start whose save failed may begin again, with its jobs sent again, where the note has the old
-- bytes; where it has the new ones, it is old.
pub record SavesBeforeItStarts : Type 0 where
  pub unsaved : sent_bodies (after_lost_start LostOld) start
      ≡ refuse asks.Start reasons.NoJobs 1 0 0
  pub staged_again : sent_bodies (with_inputs (after_lost_start LostOld) (stage ∷ [])) start
      ≡ bodies.Started 1 ∷ []
  pub saved : sent_bodies (after_lost_start LostNew) start ≡ refuse asks.Start reasons.Old 1 0 1

-- A stopped run isn't taken.
pub record StopsForGood : Type 0 where
  pub stopped : sent_bodies after_start (client_says (bodies.Stop 1)) ≡ bodies.Stopped 1 ∷ []
  pub gone :
      sent_bodies (with_inputs after_start (client_says (bodies.Stop 1) ∷ [])) trigger
      ≡ refuse asks.Trigger reasons.Gone 1 0 1
  pub issues_none :
      issue blank (with_inputs after_start (client_says (bodies.Stop 1) ∷ [])) (Issue 0)
      ≡ Some issues.Stopped

-- A Verify waits for the open writes, of which a failed one is none; it wants a state where the job
-- loads one; a run above the last is unknown; writing jobs are of the wrong phase.
pub record ChecksTheLastRun : Type 0 where
  pub busy : sent_bodies (with_inputs after_start (Issue 0 ∷ [])) verify
      ≡ refuse asks.Verify reasons.Busy 1 1 0
  pub wants :
      sent_bodies (with_inputs after_start (WriteDone (ticket 0) Failed ∷ Issue 0 ∷ [])) verify
      ≡ bodies.WantState 1 1 0 ∷ []
  pub unknown :
      sent_bodies after_start (client_says (bodies.Verify 2 1 reading_text))
      ≡ refuse asks.Verify reasons.Unknown 2 1 1
  pub wrong :
      sent_bodies after_cut (client_says (bodies.Verify 1 1 writing_text))
      ≡ refuse asks.Verify reasons.BadJobs 1 1 13

-- A job that reads other blocks than were written.
abbrev pub other : List ℕ
other = codes "[a]\nrw=read\nbs=1k\nsize=1k\nverify_state_load=1\n"

-- Run 1 was taken, the server was cut and restarted, and a check by these jobs is open.
abbrev pub after_verify : List ℕ → List Entry
after_verify text =
    with_inputs (Restart Saved ∷ (Cut ∷ with_inputs after_writes (trigger ∷ [])))
    (client_says (bodies.Verify 1 1 text) ∷ [])

-- The state that was taken.
abbrev pub taken_state : Option SavedState
taken_state = state_taken blank (with_inputs after_writes (trigger ∷ [])) 0

-- The client sends a state for attempt 1.
abbrev pub sent_state : SavedState → PacketInput
sent_state state = client_says (bodies.Saved 1 state)

-- A state of another job's blocks is refused, with the misfit's number.
pub record RefusesAMisfit : Type 0 where
  pub refused :
      option_map (λ s. sent_bodies (after_verify other) (sent_state s)) taken_state
      ≡ Some (bodies.Refused (record {
        asked = asks.Verify;
        reason = reasons.Misfit;
        job = 0;
        jobs = 1;
        run = 1;
        attempt = 1;
        value = 37;
      })
      ∷ [])
  pub once :
      option_map (λ s. sent_bodies (with_inputs (after_verify other) (sent_state s ∷ []))
      (sent_state s)) taken_state ≡ Some []
