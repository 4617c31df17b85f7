-- What a client answers in a few lists that can be followed by hand.
use Rattle.std.specs.Prelude.{◌≡◌, ℕ, true, false, List, [], ◌∷◌, map, is_some, Some, None, if◌then◌else◌}
use Rattle.fc_base.specs.declared.fault.Fault.TheVariants.{Down, Conflict, NoSuchRun, Misdirected, NumbersSpent}
use Rattle.fc_base.specs.declared.report.ReportParts.{ReportParts}
use Rattle.fc_base.specs.declared.report.ReportEnd.TheVariants.{Whole}
use Rattle.disk_model.specs.declared.save_outcome.SaveOutcome.{SaveOutcome}
use Rattle.disk_model.specs.declared.save_outcome.SaveOutcome.TheVariants.{NoSave, Saved, LostNew, LostOld}
use Rattle.messages.specs.declared.body.Body.{Body}
use Rattle.messages.specs.declared.body.Body.TheVariants as bodies
use Rattle.messages.specs.declared.refusal.Act.TheVariants as acts
use Rattle.messages.specs.declared.refusal.RefusedRequest.{RefusedRequest}
use Rattle.messages.specs.declared.refusal.RefusedRequest.TheVariants as asks
use Rattle.messages.specs.declared.refusal.Reason.{Reason}
use Rattle.messages.specs.declared.refusal.Reason.TheVariants as reasons
use Rattle.verify_state.specs.Examples.{state}
use Rattle.client_core.specs.Inputs.{PacketInput, Begin, Trigger, Stop, Verify, Deliver, Tick}
use Rattle.client_core.specs.declared.outcome.Outcome.TheVariants as outcomes
use Rattle.client_core.specs.declared.outcome.RequestKind.TheVariants as kinds
use Rattle.client_core.specs.Note.{blank}
use Rattle.client_core.specs.History.{Opening, Entry, Met, Cut, Restart}
use Rattle.client_core.specs.Words.{refusal, due, kept_state}
use Rattle.client_core.specs.Life.{life}
use Rattle.client_core.specs.Outcomes.{outcome, is_settled}
use Rattle.client_core.specs.Packets.{packets}
use Rattle.client_core.specs.Reports.{reports}
use Rattle.client_core.specs.Laws.{from_server}

-- One server, and a blank note.
abbrev pub opening : Opening
opening = record { servers = 1; noted = blank }

-- The text of a job file: what it says is the server's matter.
abbrev pub text : List ℕ
text = 91 ∷ []

-- Server 0 says this.
abbrev pub server_says : Body → PacketInput
server_says body = Deliver (from_server body 0)

-- Server 0 refuses a request of run 1, in this attempt.
abbrev pub server_refuses : RefusedRequest → Reason → ℕ → PacketInput
server_refuses asked reason attempt =
    server_says (bodies.Refused (record {
      asked = asked;
      reason = reason;
      job = 0;
      jobs = 0;
      run = 1;
      attempt = attempt;
      value = 0;
    }))

-- A call that is answered: it saves where it has something to save.
abbrev pub answered_entry : List Entry → PacketInput → Entry
answered_entry past c = Met c (if is_some (due opening past c) then Saved else NoSave)

-- The list of these calls, the newest first, behind these entries.
abbrev pub with_calls : List Entry → List PacketInput → List Entry
with_calls past [] = past
with_calls past (c ∷ calls) = answered_entry (with_calls past calls) c ∷ with_calls past calls

-- What is sent in answer to a call.
abbrev pub sent_bodies : List Entry → PacketInput → List Body
sent_bodies past c = map (λ p. p.body) (packets opening past (answered_entry past c))

-- Run 1 is begun.
abbrev pub after_begin : List Entry
after_begin = with_calls (Restart false ∷ []) (Begin text ∷ [])

-- The jobs of run 1 are staged.
abbrev pub after_jobs : List Entry
after_jobs = with_calls after_begin (server_says (bodies.JobsOk 1 2) ∷ [])

-- The jobs are sent until they are staged, and then the start, once, until it is answered; a server
-- that lacks the jobs gets them again.
pub record Begins : Type 0 where
  pub jobs : sent_bodies (Restart false ∷ []) (Begin text) ≡ bodies.Jobs 1 text ∷ []
  pub again : sent_bodies after_begin Tick ≡ bodies.Jobs 1 text ∷ []
  pub start : sent_bodies after_begin (server_says (bodies.JobsOk 1 2)) ≡ bodies.Start 1 ∷ []
  pub once : sent_bodies after_jobs (server_says (bodies.JobsOk 1 2)) ≡ []
  pub start_again : sent_bodies after_jobs Tick ≡ bodies.Start 1 ∷ []
  pub lacks_jobs : sent_bodies after_jobs (server_refuses asks.Start reasons.NoJobs 0)
      ≡ bodies.Jobs 1 text ∷ []
  pub good :
      outcome opening (with_calls after_jobs (server_says (bodies.Started 1) ∷ [])) kinds.Begin 1 0
      ≡ outcomes.Good

-- A server that is busy is asked again; any other refusal ends the request.
pub record WaitsForTheBusy : Type 0 where
  pub busy :
      outcome opening (with_calls after_begin (server_refuses asks.Jobs reasons.Busy 0 ∷ []))
      kinds.Begin 1 0
      ≡ outcomes.Open
  pub ended :
      outcome opening (with_calls after_begin (server_refuses asks.Jobs reasons.BadJobs 0 ∷ []))
      kinds.Begin 1 0
      ≡ outcomes.Refused reasons.BadJobs

-- Run 1 is triggered.
abbrev pub after_trigger : List Entry
after_trigger = with_calls after_begin (Trigger 1 acts.Cut ∷ [])

-- The state of job 1 has come, and was kept.
abbrev pub kept_one : List Entry
kept_one = with_calls after_trigger (server_says (bodies.State 2 (state 1 2)) ∷ [])

-- A state is kept and then acknowledged; it is acknowledged again without a save; another state of
-- its key, and one of another server, are refused.
pub record KeepsTheFirst : Type 0 where
  pub acknowledged :
      sent_bodies after_trigger (server_says (bodies.State 2 (state 1 2)))
      ≡ bodies.StateAck 1 1 ∷ []
  pub kept :
      kept_state opening kept_one (record { run = 1; server = 0; job = 1 }) ≡ Some (state 1 2)
  pub saved_once : due opening kept_one (server_says (bodies.State 2 (state 1 2))) ≡ None
  pub again : sent_bodies kept_one (server_says (bodies.State 2 (state 1 2)))
      ≡ bodies.StateAck 1 1 ∷ []
  pub conflict : refusal opening kept_one (server_says (bodies.State 2 (state 1 1))) ≡ Some Conflict
  pub misdirected :
      refusal opening kept_one (Deliver (from_server (bodies.State 2 (state 0 2)) 1))
      ≡ Some Misdirected

-- A trigger is open until each job has an answer.
pub record TriggersToTheEnd : Type 0 where
  pub one : outcome opening kept_one kinds.Trigger 1 0 ≡ outcomes.Open
  pub unsettled : is_settled opening kept_one 1 ≡ false
  pub both :
      outcome opening (with_calls kept_one (server_says (bodies.NoState 1 0 2) ∷ [])) kinds.Trigger
      1 0
      ≡ outcomes.Good
  pub settled : is_settled opening (with_calls kept_one (server_says (bodies.NoState 1 0 2) ∷ [])) 1
      ≡ true

-- Run 1 is verified, in attempt 1.
abbrev pub after_verify : List Entry
after_verify = with_calls kept_one (Verify 1 text ∷ [])

-- What the check of job 1 found.
abbrev pub found_report : ReportParts
found_report = record { checked = 1; faults = 0; first = []; end = Whole }

-- A check gets each kept state that it asks for, and is told where there is none; its reports are
-- kept, each once; it ends as a misfit where a state didn't fit.
pub record Verifies : Type 0 where
  pub kept : sent_bodies after_verify (server_says (bodies.WantState 1 1 1))
      ≡ bodies.Saved 1 (state 1 2) ∷ []
  pub none : sent_bodies after_verify (server_says (bodies.WantState 1 1 0))
      ≡ bodies.NoSaved 1 1 0 ∷ []
  pub report :
      reports (life opening (with_calls after_verify
      (server_says (bodies.Report 1 1 1 2 found_report)
      ∷ server_says (bodies.Report 1 1 1 2 found_report) ∷ [])))
      ≡ record { run = 1; attempt = 1; server = 0; job = 1; report = found_report } ∷ []
  pub good :
      outcome opening (with_calls after_verify (server_says (bodies.Report 1 1 0 2 found_report)
      ∷ server_says (bodies.Report 1 1 1 2 found_report) ∷ [])) kinds.Verify 1 0 ≡ outcomes.Good
  pub misfit :
      outcome opening (with_calls after_verify (server_says (bodies.Report 1 1 1 2 found_report)
      ∷ server_says (bodies.Refused (record {
        asked = asks.Verify;
        reason = reasons.Misfit;
        job = 0;
        jobs = 2;
        run = 1;
        attempt = 1;
        value = 36;
      }))
      ∷ [])) kinds.Verify 1 0 ≡ outcomes.Refused reasons.Misfit

-- A save of a begin that failed, and a restart.
abbrev pub after_lost_begin : SaveOutcome → List Entry
after_lost_begin left = Restart false ∷ (Met (Begin text) left ∷ (Restart false ∷ []))

-- A client whose save failed is down until it is restarted. The run's number is given again only
-- where the note has the old bytes.
pub record GoesDown : Type 0 where
  pub sends_nothing : packets opening (Restart false ∷ []) (Met (Begin text) LostNew) ≡ []
  pub down : refusal opening (Met (Begin text) LostNew ∷ (Restart false ∷ [])) Tick ≡ Some Down
  pub next : sent_bodies (after_lost_begin LostNew) (Begin text) ≡ bodies.Jobs 2 text ∷ []
  pub again : sent_bodies (after_lost_begin LostOld) (Begin text) ≡ bodies.Jobs 1 text ∷ []

-- A state whose save failed is kept where the note has the new bytes, and is then acknowledged
-- without a save.
pub record KeepsWhatIsNoted : Type 0 where
  pub acknowledged :
      sent_bodies (Restart false ∷ (Met (server_says (bodies.State 2 (state 1 2))) LostNew
      ∷ after_trigger))
      (server_says (bodies.State 2 (state 1 2))) ≡ bodies.StateAck 1 1 ∷ []
  pub saved :
      due opening (Restart false ∷ (Met (server_says (bodies.State 2 (state 1 2))) LostNew
      ∷ after_trigger))
      (server_says (bodies.State 2 (state 1 2))) ≡ None

-- A cut loses the requests, and neither numbers nor states.
abbrev pub cut_off : List Entry
cut_off = Restart false ∷ (Cut ∷ after_verify)

-- A cut makes the client forget what it waits for, and not what its note says.
pub record ForgetsByACut : Type 0 where
  pub quiet : sent_bodies cut_off Tick ≡ []
  pub next : sent_bodies cut_off (Begin text) ≡ bodies.Jobs 2 text ∷ []
  pub kept : sent_bodies cut_off (server_says (bodies.WantState 1 1 1))
      ≡ bodies.Saved 1 (state 1 2) ∷ []
  pub known : refusal opening cut_off (Trigger 1 acts.Cut) ≡ None
  pub unknown : refusal opening cut_off (Trigger 2 acts.Cut) ≡ Some NoSuchRun

-- All open requests are sent again: by run the jobs or the start, the trigger and the stop, and
-- then the verifies.
pub record AsksAgainInOrder : Type 0 where
  pub order :
      sent_bodies (with_calls after_verify (Stop 1 ∷ [])) Tick
      ≡ bodies.Jobs 1 text ∷ (bodies.Trigger 1 acts.Cut ∷
      (bodies.Stop 1 ∷ (bodies.Verify 1 1 text ∷ [])))

-- The numbers of a client are spent once it has given the greatest number of a run.
pub record SpendsNumbers : Type 0 where
  pub spent :
      refusal (record {
        servers = 1;
        noted = record { generation = 0; runs = 18446744073709551615; attempts = 0; kept = [] };
      })
      (Restart false ∷ []) (Begin text) ≡ Some NumbersSpent
