-- The steps of a client, its servers and its mirror with frames in one list, the newest first, and
-- the trace of packets that it says.
use Rattle.std.specs.Prelude.{◌≡◌, ℕ, ◌==◌, if◌then◌else◌, List, [], ◌∷◌, ◌++◌, map, Option, Some, Contains, Bool, true, IsTrue}
use Rattle.std.specs.List.{flat_map}
use Rattle.std.specs.Option.{option_map}
use Rattle.messages.specs.declared.packet.PacketParts.{PacketParts}
use Rattle.messages.specs.declared.node.Node.{Node}
use Rattle.messages.specs.declared.node.Node.TheVariants.{Server, Client, Mirror}
use Rattle.messages.specs.declared.frame.Frame.{Frame}
use Rattle.messages.specs.declared.frame.Frame.TheVariants.{Whole, Piece}
use Rattle.messages.specs.Pieces.{frames_of}
use Rattle.messages.specs.Hearing.{Rules, Coming, Comes, Happens, entry_of, frames_by, with_entry, heard}
use Rattle.disk_model.specs.declared.save_outcome.SaveOutcome.{SaveOutcome}
use Rattle.disk_model.specs.declared.save_outcome.SaveOutcome.TheVariants.{Saved}
use Rattle.server_core.specs.Inputs.{PacketInput as ServerInput}
use Rattle.server_core.specs.declared.input.Input.TheVariants as server_inputs
use Rattle.server_core.specs.History as server
use Rattle.server_core.specs.Hearing as server_hearing
use Rattle.server_core.specs.Answers as servers
use Rattle.client_core.specs.Inputs.{PacketInput as ClientInput}
use Rattle.client_core.specs.Inputs as client_inputs
use Rattle.client_core.specs.History as client
use Rattle.client_core.specs.Packets as clients
use Rattle.client_core.specs.Hearing as client_hearing
use Rattle.mirror_core.specs.History as mirror
use Rattle.mirror_core.specs.Packets as mirrors
use Rattle.net_world.specs.Setup.{Setup}
use Rattle.net_world.specs.Trace.{Step, AtServer, AtClient, AtMirror, opening_of, client_opening, mirror_opening, first_entry, taken_by, is_of_setup}

-- A step: a frame comes to the server with this number, or anything else happens to it; or to the
-- client; or something comes to the mirror, which hears whole frames alone.
pub data FrameStep : Type 0 where
  OfServer : ℕ → Coming server.Entry SaveOutcome → FrameStep
  OfClient : Coming client.Entry SaveOutcome → FrameStep
  OfMirror : mirror.Entry → FrameStep

-- What has happened to server s: its first restart, and its steps since.
abbrev pub of_server : ℕ → List FrameStep → List (Coming server.Entry SaveOutcome)
of_server s [] = Happens (server.Restart Saved) ∷ []
of_server s (OfServer r c ∷ past) = if r == s then c ∷ of_server s past else of_server s past
of_server s (OfClient c ∷ past) = of_server s past
of_server s (OfMirror e ∷ past) = of_server s past

-- What has happened to the client.
abbrev pub of_client : Setup → List FrameStep → List (Coming client.Entry SaveOutcome)
of_client w [] = Happens (first_entry w.mirror) ∷ []
of_client w (OfServer s c ∷ past) = of_client w past
of_client w (OfClient c ∷ past) = c ∷ of_client w past
of_client w (OfMirror e ∷ past) = of_client w past

-- What has happened to the mirror.
abbrev pub of_mirror : List FrameStep → List mirror.Entry
of_mirror [] = mirror.Restart ∷ []
of_mirror (OfServer s c ∷ past) = of_mirror past
of_mirror (OfClient c ∷ past) = of_mirror past
of_mirror (OfMirror e ∷ past) = e ∷ of_mirror past

-- How the server of this number hears frames.
abbrev pub at_server : ℕ → Rules ServerInput server.Entry SaveOutcome
at_server s = server_hearing.rules (opening_of s)

-- How the client of a setup hears frames.
abbrev pub at_client : Setup → Rules ClientInput client.Entry SaveOutcome
at_client w = client_hearing.rules (client_opening w)

-- The frames that a node sends, to which this has happened, with what happens now.
abbrev pub frames_of_coming :
    {X E : Type 0} → Rules X E SaveOutcome → (List E → E → List PacketParts) → List (Coming E SaveOutcome)
    → Coming E SaveOutcome → List Frame
frames_of_coming r sends past c =
    frames_by sends (heard r past).entries (entry_of r (heard r past) c)

-- The frames that a step sends.
abbrev pub frames_of_step : Setup → List FrameStep → FrameStep → List Frame
frames_of_step w past (OfServer s c) =
    frames_of_coming (at_server s) (servers.packets (opening_of s)) (of_server s past) c
frames_of_step w past (OfClient c) =
    frames_of_coming (at_client w) (clients.packets (client_opening w)) (of_client w past) c
frames_of_step w past (OfMirror e) =
    flat_map frames_of (mirrors.packets mirror_opening (of_mirror past) e)

-- Every frame that was ever sent, the oldest first.
unfoldable pub frames_sent : Setup → List FrameStep → List Frame
frames_sent w [] = []
frames_sent w (step ∷ past) = frames_sent w past ++ frames_of_step w past step

-- The node that a frame is for.
abbrev pub to_of : Frame → Node
to_of (Whole p) = p.to
to_of (Piece q) = q.to

-- The step of packets that a step says, if it says one.
abbrev pub step_heard : Setup → List FrameStep → FrameStep → Option Step
step_heard w past (OfServer s c) =
    option_map (AtServer s) (entry_of (at_server s) (heard (at_server s) (of_server s past)) c)
step_heard w past (OfClient c) =
    option_map AtClient (entry_of (at_client w) (heard (at_client w) (of_client w past)) c)
step_heard w past (OfMirror e) = Some (AtMirror e)

-- The trace of packets that steps of frames say.
abbrev pub trace_heard : Setup → List FrameStep → List Step
trace_heard w [] = []
trace_heard w (step ∷ past) = with_entry (step_heard w past step) (trace_heard w past)

-- A frame that a step takes was sent to its node, and what happens besides takes no packet.
abbrev pub MayHappen : List Frame → FrameStep → Type 0
MayHappen frames (OfServer s (Comes f left)) = Contains frames f × (to_of f ≡ Server s)
MayHappen frames (OfServer s (Happens e)) = taken_by (AtServer s e) ≡ []
MayHappen frames (OfClient (Comes f left)) = Contains frames f × (to_of f ≡ Client)
MayHappen frames (OfClient (Happens e)) = taken_by (AtClient e) ≡ []
MayHappen frames (OfMirror (mirror.Met f left)) = Contains frames f × (to_of f ≡ Mirror)
MayHappen frames (OfMirror mirror.Cut) = Unit {0}
MayHappen frames (OfMirror mirror.Restart) = Unit {0}

-- What happens to the client besides frames, or to the mirror, is a step of the setup.
abbrev pub is_allowed : Setup → List FrameStep → FrameStep → Bool
is_allowed w past (OfServer s c) = true
is_allowed w past (OfClient (Comes f left)) = true
is_allowed w past (OfClient (Happens e)) = is_of_setup w (trace_heard w past) (AtClient e)
is_allowed w past (OfMirror e) = w.mirror

-- A trace of frames: each frame that a node takes was sent to it earlier, and each step is one of
-- the setup.
abbrev pub IsFrameTrace : Setup → List FrameStep → Type 0
IsFrameTrace w [] = Unit {0}
IsFrameTrace w (step ∷ past) =
    IsFrameTrace w past × MayHappen (frames_sent w past) step × IsTrue (is_allowed w past step)

-- What happens to a server, as an entry of its list of frames. A packet that comes besides the
-- frames, as none does in a trace, is one that comes whole.
abbrev pub frame_entry : Coming server.Entry SaveOutcome → server_hearing.FrameEntry
frame_entry (Comes f left) = server_hearing.Met (server_inputs.Deliver f) left
frame_entry (Happens (server.Met (server_inputs.Deliver p) left)) =
    server_hearing.Met (server_inputs.Deliver (Whole p)) left
frame_entry (Happens (server.Met (server_inputs.Issue j) left)) = server_hearing.Met (server_inputs.Issue j) left
frame_entry (Happens (server.Met (server_inputs.WriteDone ticket end) left)) =
    server_hearing.Met (server_inputs.WriteDone ticket end) left
frame_entry (Happens (server.Met (server_inputs.CheckDone boot a j report) left)) =
    server_hearing.Met (server_inputs.CheckDone boot a j report) left
frame_entry (Happens server.Cut) = server_hearing.Cut
frame_entry (Happens (server.Restart left)) = server_hearing.Restart left

-- The list of frames of server s.
abbrev pub server_entries : ℕ → List FrameStep → List server_hearing.FrameEntry
server_entries s t = map frame_entry (of_server s t)

-- What happens to the client, as an entry of its list of frames.
abbrev pub client_frame_entry : Coming client.Entry SaveOutcome → client_hearing.FrameEntry
client_frame_entry (Comes f left) = client_hearing.Met (client_inputs.Deliver f) left
client_frame_entry (Happens (client.Met (client_inputs.Begin text) left)) =
    client_hearing.Met (client_inputs.Begin text) left
client_frame_entry (Happens (client.Met (client_inputs.Trigger run act) left)) =
    client_hearing.Met (client_inputs.Trigger run act) left
client_frame_entry (Happens (client.Met (client_inputs.Stop run) left)) =
    client_hearing.Met (client_inputs.Stop run) left
client_frame_entry (Happens (client.Met (client_inputs.Verify run text) left)) =
    client_hearing.Met (client_inputs.Verify run text) left
client_frame_entry (Happens (client.Met (client_inputs.Deliver p) left)) =
    client_hearing.Met (client_inputs.Deliver (Whole p)) left
client_frame_entry (Happens (client.Met client_inputs.Tick left)) =
    client_hearing.Met client_inputs.Tick left
client_frame_entry (Happens client.Cut) = client_hearing.Cut
client_frame_entry (Happens (client.Restart mirror)) = client_hearing.Restart mirror
client_frame_entry (Happens (client.Renew g left)) = client_hearing.Renew g left
client_frame_entry (Happens client.Lose) = client_hearing.Lose

-- The client's list of frames.
abbrev pub client_entries : Setup → List FrameStep → List client_hearing.FrameEntry
client_entries w t = map client_frame_entry (of_client w t)
