-- What has changed in a world once this has happened in it, the newest first, and what each is
-- told.
use Rattle.std.specs.Prelude.{ℕ, ◌+◌, List, [], ◌∷◌, length, map, Option, Some, None, Result, Ok, Err, nat_lt, ◌&&◌, if◌then◌else◌}
use Rattle.fc_base.specs.declared.fault.Fault.{Fault}
use Rattle.fc_base.specs.declared.fault.Fault.TheVariants.{FrameBadField}
use Rattle.fc_base.specs.declared.numbers.Key.{Key}
use Rattle.engine.specs.declared.issue.Issue.{Issue as Issued}
use Rattle.verify_state.specs.State.{State}
use Rattle.disk_model.specs.SaveOutcome.{is_lost}
use Rattle.messages.specs.declared.node.Node.TheVariants.{Server, Client}
use Rattle.messages.specs.declared.refusal.Act.{Act}
use Rattle.messages.specs.declared.refusal.Act.TheVariants as acts
use Rattle.messages.specs.FrameBytes.{frame_spelling}
use Rattle.server_core.specs.Inputs.{PacketInput}
use Rattle.server_core.specs.declared.input.Input.TheVariants as inputs
use Rattle.server_core.specs.declared.status.Status.{Status}
use Rattle.server_core.specs.History as server
use Rattle.server_core.specs.Answers as servers
use Rattle.client_core.specs.declared.note.ClientNote.{ClientNote}
use Rattle.client_core.specs.Words as clients
use Rattle.net_world.specs.declared.told.WorldAnswer.{WorldAnswer}
use Rattle.net_world.specs.declared.told.WorldAnswer.TheVariants as answers
use Rattle.net_world.specs.declared.told.Told.{Told}
use Rattle.net_world.specs.Setup.{Setup}
use Rattle.net_world.specs.Happenings.{Happening, Begin, Verify, Issue, Check}
use Rattle.net_world.specs.Trace.{Step, AtServer, of_server, of_client, opening_of, client_opening}
use Rattle.net_world.specs.Frames.{frames_sent, frames_of_step, step_heard}
use Rattle.net_world.specs.Changes.{Change, Met, Landed, Rotted, steps, trace}
use Rattle.net_world.specs.Checks.{end_of_check}
use Rattle.net_world.specs.Barred.{is_on}
use Rattle.net_world.specs.Outcomes.{Outcome, Does, Refuses, Drops, outcome}

-- A change is added, and so is the step that drops a tag; what is refused adds nothing.
abbrev pub and_outcome : Outcome → List Change → List Change
and_outcome (Does change) past = change ∷ past
and_outcome (Refuses fault) past = past
and_outcome (Drops step) past = Met step ∷ past

-- What has changed in a world once this has happened, the newest first.
abbrev pub world : Setup → List Happening → List Change
world w [] = []
world w (e ∷ events) = and_outcome (outcome w (world w events) e) (world w events)

-- The frames that were ever sent, numbered from 0.
abbrev pub frames : Setup → List Change → List (List ℕ)
frames w past = map frame_spelling (frames_sent w (steps past))

-- What the client's note says.
abbrev pub client_note : Setup → List Change → ClientNote
client_note w past = clients.words_noted (client_opening w) (of_client w (trace w past))

-- The state that the client keeps of a key, while it is on.
abbrev pub saved_state : Setup → List Change → Key → Option State
saved_state w past key =
    if is_on w (trace w past) Client
    then clients.kept_state (client_opening w) (of_client w (trace w past)) key
    else None

-- What a server shows of itself, while it is there and on.
abbrev pub status : Setup → List Change → ℕ → Option Status
status w past s =
    if nat_lt s w.servers && is_on w (trace w past) (Server s)
    then Some (servers.status (opening_of s) (of_server s (trace w past)))
    else None

-- What is answered to a worker that asks for a write.
abbrev pub answer_of_issue : Option Issued → WorldAnswer
answer_of_issue None = answers.Plain
answer_of_issue (Some answer) = answers.Issued answer

-- The report of a check that is done.
abbrev pub report_in : Option PacketInput → WorldAnswer
report_in (Some (inputs.CheckDone boot attempt j report)) = answers.Checked report
report_in _ = answers.Plain

-- What is answered where it isn't refused: the number of the run or attempt, what the worker is
-- told, or the report.
abbrev pub answer : Setup → List Change → Happening → WorldAnswer
answer w past (Begin text) = answers.Run ((client_note w past).runs + 1)
answer w past (Verify run text) = answers.Attempt ((client_note w past).attempts + 1)
answer w past (Issue s j) =
    answer_of_issue (servers.issue (opening_of s) (of_server s (trace w past)) (inputs.Issue j))
answer w past (Check s j) = report_in (end_of_check w past s j)
answer w past _ = answers.Plain

-- How many frames are sent with a change.
abbrev pub frame_count : Setup → List Change → Change → ℕ
frame_count w past (Met step) = length (frames_of_step w (steps past) step)
frame_count w past (Landed s j k mask) = 0
frame_count w past (Rotted s j sector bytes) = 0

-- What a server asks of its caller in a step of packets, if there is one.
abbrev pub act_of : List Step → Option Step → Act
act_of t (Some (AtServer s (server.Met e left))) =
    if is_lost left then acts.None else servers.act (opening_of s) (of_server s t) e
act_of t _ = acts.None

-- What a server asks of its caller with a change.
abbrev pub act : Setup → List Change → Change → Act
act w past (Met step) = act_of (trace w past) (step_heard w (steps past) step)
act w past _ = acts.None

-- What is told of what comes of it.
abbrev pub told_by : Setup → List Change → Happening → Outcome → Result Told Fault
told_by w past e (Refuses fault) = Err fault
told_by w past e (Drops step) = Err FrameBadField
told_by w past e (Does change) = Ok (record {
  answer = answer w past e;
  first = length (frames_sent w (steps past));
  sent = frame_count w past change;
  act = act w past change;
})

-- What is told of what happens, or why it is refused.
abbrev pub told_of_happening : Setup → List Change → Happening → Result Told Fault
told_of_happening w past e = told_by w past e (outcome w past e)
