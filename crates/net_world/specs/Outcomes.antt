-- What comes of what happens in a world.
use Rattle.std.specs.Prelude.{ℕ, Bool, ◌&&◌, List, Option, Some, None, slice_get, Result, Ok, Err, if◌then◌else◌}
use Rattle.fc_base.specs.declared.fault.Fault.{Fault}
use Rattle.fc_base.specs.declared.fault.Fault.TheVariants.{BadNote, NumbersSpent, NoSave, NoFrame, NoWrite, NotInFlight, Misdirected}
use Rattle.messages.specs.declared.node.Node.{Node}
use Rattle.messages.specs.declared.node.Node.TheVariants.{Server, Client, Mirror}
use Rattle.messages.specs.declared.frame.Frame.{Frame}
use Rattle.messages.specs.Hearing.{Comes, Happens, Meaning, Says, Waits, Spoils, Strays, meaning, heard}
use Rattle.disk_model.specs.declared.save_outcome.SaveOutcome.TheVariants as lefts
use Rattle.disk_model.specs.SaveOutcome.{saved_for}
pub use Rattle.node.specs.Kinds.{lost_by}
use Rattle.engine.specs.Running.{Origin}
use Rattle.engine.specs.Answers.{ticket_of}
use Rattle.server_core.specs.Inputs.{PacketInput as ServerInput}
use Rattle.server_core.specs.declared.input.Input.TheVariants as server_inputs
use Rattle.server_core.specs.declared.input.WriteEnd.{WriteEnd}
use Rattle.server_core.specs.declared.input.WriteEnd.TheVariants as ends
use Rattle.server_core.specs.History as server
use Rattle.server_core.specs.Words as servers
use Rattle.server_core.specs.Answers as answers
use Rattle.client_core.specs.Inputs.{PacketInput as ClientInput}
use Rattle.client_core.specs.Inputs as client_inputs
use Rattle.client_core.specs.History as client
use Rattle.client_core.specs.Words as clients
use Rattle.client_core.specs.Note.{is_blank}
use Rattle.client_core.specs.declared.note.ClientNote.{ClientNote}
use Rattle.mirror_core.specs.History as mirror
use Rattle.mirror_core.specs.Words as mirrors
use Rattle.net_world.specs.Setup.{Setup}
use Rattle.net_world.specs.Happenings.{Happening, Begin, Trigger, StopRun, Verify, Tick, Deliver, Issue}
use Rattle.net_world.specs.Happenings.{Land, Done, Fail, Rot, Check, Cut, Restart, LoseNote, Renew, CutIn}
use Rattle.net_world.specs.Trace.{Step, of_server, of_client, of_mirror, opening_of, client_opening, mirror_opening}
use Rattle.net_world.specs.Frames as frames
use Rattle.net_world.specs.Frames.{FrameStep, OfServer, OfClient, OfMirror, at_server, at_client, frames_sent, to_of}
use Rattle.net_world.specs.Changes.{Change, Met, Landed, Rotted, steps, trace}
use Rattle.net_world.specs.Writes.{open_at}
use Rattle.net_world.specs.Checks.{end_of_check}
use Rattle.net_world.specs.Barred.{barring_fault}

-- What comes of what happens: a change; a refusal; or a piece is refused and its tag is dropped,
-- which is a step of its node.
pub data Outcome : Type 0 where
  Does : Change → Outcome
  Refuses : Fault → Outcome
  Drops : FrameStep → Outcome

-- A step, or why it isn't made.
abbrev pub outcome_of_step : Result FrameStep Fault → Outcome
outcome_of_step (Ok step) = Does (Met step)
outcome_of_step (Err fault) = Refuses fault

-- This, unless there is a fault.
abbrev pub unless_fault : {X : Type 0} → Option Fault → Result X Fault → Result X Fault
unless_fault None x = x
unless_fault (Some fault) x = Err fault

-- This, where there is something to save; else there is no save.
abbrev pub where_saved : {X Y : Type 0} → Option X → Y → Result Y Fault
where_saved None y = Err NoSave
where_saved (Some x) y = Ok y

-- A server meets an event and saves what is due, unless it refuses the event.
abbrev pub met_by_server : List Step → ℕ → ServerInput → Result FrameStep Fault
met_by_server t s e =
    let opening = opening_of s in
    let past = of_server s t in
    unless_fault (answers.refusal opening past e)
    (Ok (OfServer s (Happens (server.Met e (saved_for (servers.due opening past e))))))

-- The client meets a call and saves what is due, unless it refuses the call.
abbrev pub met_by_client : Setup → List Step → ClientInput → Result FrameStep Fault
met_by_client w t c =
    let opening = client_opening w in
    let past = of_client w t in
    unless_fault (clients.refusal opening past c)
    (Ok (OfClient (Happens (client.Met c (saved_for (clients.due opening past c))))))

-- A frame comes to a server, which makes this of it: its packet is met, or refused; a piece waits
-- for others; or it is refused, and its tag is dropped; or it isn't for the server.
abbrev pub comes_to_server : List Step → ℕ → Frame → Meaning → Outcome
comes_to_server t s f (Says p) =
    let opening = opening_of s in
    let past = of_server s t in
    outcome_of_step (unless_fault (answers.refusal opening past (server_inputs.Deliver p))
    (Ok (OfServer s (Comes f (saved_for (servers.due opening past (server_inputs.Deliver p)))))))
comes_to_server t s f Waits = Does (Met (OfServer s (Comes f lefts.NoSave)))
comes_to_server t s f Spoils = Drops (OfServer s (Comes f lefts.NoSave))
comes_to_server t s f Strays = Refuses Misdirected

-- A frame comes to the client, which makes this of it: its packet is met, or refused; a piece waits
-- for others; or it is refused, and its tag is dropped; or it isn't for the client.
abbrev pub comes_to_client : Setup → List Step → Frame → Meaning → Outcome
comes_to_client w t f (Says p) =
    let opening = client_opening w in
    let past = of_client w t in
    outcome_of_step (unless_fault (clients.refusal opening past (client_inputs.Deliver p))
    (Ok (OfClient (Comes f (saved_for (clients.due opening past (client_inputs.Deliver p)))))))
comes_to_client w t f Waits = Does (Met (OfClient (Comes f lefts.NoSave)))
comes_to_client w t f Spoils = Drops (OfClient (Comes f lefts.NoSave))
comes_to_client w t f Strays = Refuses Misdirected

-- What a frame says to a server, and to the client, behind these steps.
abbrev pub said_to_server : List FrameStep → ℕ → Frame → Meaning
said_to_server past s f = meaning (at_server s) (heard (at_server s) (frames.of_server s past)) f

-- What a frame says to the client, behind these steps.
abbrev pub said_to_client : Setup → List FrameStep → Frame → Meaning
said_to_client w past f = meaning (at_client w) (heard (at_client w) (frames.of_client w past)) f

-- A frame comes to the mirror, which refuses each piece.
abbrev pub comes_to_mirror : List Step → Frame → Result FrameStep Fault
comes_to_mirror t f =
    let past = of_mirror t in
    unless_fault (mirrors.refusal mirror_opening past f)
    (Ok (OfMirror (mirror.Met f (saved_for (mirrors.due mirror_opening past f)))))

-- A frame comes to its node.
abbrev pub comes_to : Setup → List Change → Node → Frame → Outcome
comes_to w past (Server s) f = comes_to_server (trace w past) s f (said_to_server (steps past) s f)
comes_to w past Client f = comes_to_client w (trace w past) f (said_to_client w (steps past) f)
comes_to w past Mirror f = outcome_of_step (comes_to_mirror (trace w past) f)

-- A frame that was sent comes to its node, and one that wasn't is refused.
abbrev pub delivery : Setup → List Change → Option Frame → Outcome
delivery w past None = Refuses NoFrame
delivery w past (Some f) = comes_to w past (to_of f) f

-- The worker of an open write tells how it ended.
abbrev pub end_of_write : List Step → ℕ → ℕ → WriteEnd → Option Origin → Result FrameStep Fault
end_of_write t s k end None = Err NoWrite
end_of_write t s k end (Some origin) = met_by_server t s (server_inputs.WriteDone (ticket_of origin k) end)

-- A server meets the end of a check, where the job is ready.
abbrev pub end_of_check_met : List Step → ℕ → Option ServerInput → Result FrameStep Fault
end_of_check_met t s None = Err NotInFlight
end_of_check_met t s (Some e) = met_by_server t s e

-- A node loses its power.
abbrev pub cut : Node → Result FrameStep Fault
cut (Server s) = Ok (OfServer s (Happens server.Cut))
cut Client = Ok (OfClient (Happens client.Cut))
cut Mirror = Ok (OfMirror mirror.Cut)

-- What the client's note says.
abbrev pub noted_in : Setup → List Step → ClientNote
noted_in w t = clients.words_noted (client_opening w) (of_client w t)

-- A node is started again; a server saves its boot before, and a client with a mirror is started
-- only on a note.
abbrev pub restart_of : Setup → List Step → Node → Result FrameStep Fault
restart_of w t (Server s) =
    if servers.has_boot (opening_of s) (of_server s t)
    then Ok (OfServer s (Happens (server.Restart lefts.Saved)))
    else Err NumbersSpent
restart_of w t Client =
    if w.mirror && is_blank (noted_in w t) then Err BadNote
    else Ok (OfClient (Happens (client.Restart w.mirror)))
restart_of w t Mirror = Ok (OfMirror mirror.Restart)

-- The client is started on no note, and saves the generation that it is given.
abbrev pub renewal : Setup → List Step → ℕ → Result FrameStep Fault
renewal w t g =
    if is_blank (noted_in w t) then Ok (OfClient (Happens (client.Renew g lefts.Saved)))
    else Err BadNote

-- The client loses its power within the save that a call is due to make.
abbrev pub client_cut_in : Setup → List Step → Bool → ClientInput → Result FrameStep Fault
client_cut_in w t landed c =
    where_saved (clients.due (client_opening w) (of_client w t) c)
    (OfClient (Happens (client.Met c (lost_by landed))))

-- A server, or the client, loses its power within the save that a frame's packet is due to make.
abbrev pub server_frame_cut : List Step → ℕ → Bool → Frame → Meaning → Result FrameStep Fault
server_frame_cut t s landed f (Says p) =
    where_saved (servers.due (opening_of s) (of_server s t) (server_inputs.Deliver p))
    (OfServer s (Comes f (lost_by landed)))
server_frame_cut t s landed f _ = Err NoSave

-- The client loses its power within the save of what a frame says, where there is one.
abbrev pub client_frame_cut : Setup → List Step → Bool → Frame → Meaning → Result FrameStep Fault
client_frame_cut w t landed f (Says p) =
    where_saved (clients.due (client_opening w) (of_client w t) (client_inputs.Deliver p))
    (OfClient (Comes f (lost_by landed)))
client_frame_cut w t landed f _ = Err NoSave

-- The mirror loses its power within the save that a frame is due to make.
abbrev pub mirror_frame_cut : List Step → Bool → Frame → Result FrameStep Fault
mirror_frame_cut t landed f =
    where_saved (mirrors.due mirror_opening (of_mirror t) f)
    (OfMirror (mirror.Met f (lost_by landed)))

-- The node to which a frame goes loses its power within the save that the frame is due to make.
abbrev pub frame_cut : Setup → List Change → Bool → Node → Frame → Result FrameStep Fault
frame_cut w past landed (Server s) f =
    server_frame_cut (trace w past) s landed f (said_to_server (steps past) s f)
frame_cut w past landed Client f =
    client_frame_cut w (trace w past) landed f (said_to_client w (steps past) f)
frame_cut w past landed Mirror f = mirror_frame_cut (trace w past) landed f

-- A node loses its power within the save of a frame that was sent.
abbrev pub delivery_cut_in : Setup → List Change → Bool → Option Frame → Result FrameStep Fault
delivery_cut_in w past landed None = Err NoFrame
delivery_cut_in w past landed (Some f) = frame_cut w past landed (to_of f) f

-- A server loses its power within the save of its boot. The restart of another node makes no save.
abbrev pub restart_cut_in : List Step → Bool → Node → Result FrameStep Fault
restart_cut_in t landed (Server s) =
    if servers.has_boot (opening_of s) (of_server s t)
    then Ok (OfServer s (Happens (server.Restart (lost_by landed)))) else Err NoSave
restart_cut_in t landed Client = Err NoSave
restart_cut_in t landed Mirror = Err NoSave

-- The client loses its power within the save of its generation, where it has no note.
abbrev pub renewal_cut_in : Setup → List Step → Bool → ℕ → Result FrameStep Fault
renewal_cut_in w t landed g =
    if is_blank (noted_in w t) then Ok (OfClient (Happens (client.Renew g (lost_by landed))))
    else Err NoSave

-- A node loses its power within the save of what happens. Only these five make one.
abbrev pub cut_in : Setup → List Change → Bool → Happening → Result FrameStep Fault
cut_in w past landed (Begin text) = client_cut_in w (trace w past) landed (client_inputs.Begin text)
cut_in w past landed (Verify run text) =
    client_cut_in w (trace w past) landed (client_inputs.Verify run text)
cut_in w past landed (Deliver i) =
    delivery_cut_in w past landed (slice_get (frames_sent w (steps past)) i)
cut_in w past landed (Restart node) = restart_cut_in (trace w past) landed node
cut_in w past landed (Renew g) = renewal_cut_in w (trace w past) landed g
cut_in w past landed _ = Err NoSave

-- What comes of what the world doesn't refuse.
abbrev pub brings : Setup → List Change → Happening → Outcome
brings w past (Begin text) = outcome_of_step (met_by_client w (trace w past) (client_inputs.Begin text))
brings w past (Trigger run act) =
    outcome_of_step (met_by_client w (trace w past) (client_inputs.Trigger run act))
brings w past (StopRun run) = outcome_of_step (met_by_client w (trace w past) (client_inputs.Stop run))
brings w past (Verify run text) =
    outcome_of_step (met_by_client w (trace w past) (client_inputs.Verify run text))
brings w past Tick = outcome_of_step (met_by_client w (trace w past) client_inputs.Tick)
brings w past (Deliver i) = delivery w past (slice_get (frames_sent w (steps past)) i)
brings w past (Issue s j) = outcome_of_step (met_by_server (trace w past) s (server_inputs.Issue j))
brings w past (Land s j k mask) = Does (Landed s j k mask)
brings w past (Done s j k) =
    outcome_of_step (end_of_write (trace w past) s k ends.Done (open_at (trace w past) s j k))
brings w past (Fail s j k) =
    outcome_of_step (end_of_write (trace w past) s k ends.Failed (open_at (trace w past) s j k))
brings w past (Rot s j sector bytes) = Does (Rotted s j sector bytes)
brings w past (Check s j) =
    outcome_of_step (end_of_check_met (trace w past) s (end_of_check w past s j))
brings w past (Cut node) = outcome_of_step (cut node)
brings w past (Restart node) = outcome_of_step (restart_of w (trace w past) node)
brings w past LoseNote = Does (Met (OfClient (Happens client.Lose)))
brings w past (Renew g) = outcome_of_step (renewal w (trace w past) g)
brings w past (CutIn landed e) = outcome_of_step (cut_in w past landed e)

-- What happens, unless the world refuses it.
abbrev pub unless_barred : Option Fault → Outcome → Outcome
unless_barred None x = x
unless_barred (Some fault) x = Refuses fault

-- What comes of what happens: first the world may refuse it, and then its node.
abbrev pub outcome : Setup → List Change → Happening → Outcome
outcome w past e =
    unless_barred (barring_fault w (trace w past) (frames_sent w (steps past)) e) (brings w past e)
