-- What holds of every trace of frames.
use Rattle.std.specs.Prelude.{◌≡◌, ℕ, List, [], ◌∷◌, Contains, Some}
use Rattle.std.specs.List.{flat_map}
use Rattle.fc_base.specs.declared.numbers.Key.{Key}
use Rattle.verify_state.specs.State.{State}
use Rattle.messages.specs.declared.packet.PacketParts.{PacketParts}
use Rattle.messages.specs.declared.piece.PieceParts.{PieceParts}
use Rattle.messages.specs.declared.frame.Frame.TheVariants.{Piece}
use Rattle.messages.specs.Pieces.{frames_of}
use Rattle.messages.specs.Assemblies.{look_at_piece, Gives}
use Rattle.messages.specs.PieceLaws.{ArePackets, OneBodyOfEachTag, all_taken}
use Rattle.messages.specs.Hearing.{Coming, heard}
use Rattle.disk_model.specs.declared.save_outcome.SaveOutcome.{SaveOutcome}
use Rattle.server_core.specs.History.{Entry}
use Rattle.server_core.specs.Hearing.{heard_at}
use Rattle.server_core.specs.FrameAnswers as answers
use Rattle.net_world.specs.Setup.{Setup}
use Rattle.net_world.specs.Trace as packets
use Rattle.net_world.specs.Trace.{Step, IsTrace, sent_packets, opening_of}
use Rattle.net_world.specs.Holders.{carried_state}
use Rattle.net_world.specs.Frames.{FrameStep, OfServer, of_server, of_client, of_mirror, at_server, at_client}
use Rattle.net_world.specs.Frames.{frames_of_step, frames_sent, IsFrameTrace, trace_heard, frame_entry, server_entries}
use Rattle.net_world.specs.InRange.{FitsFrames}

-- The list of each node in the trace that is heard is what the node hears of its own steps: the
-- mirror hears all of them.
pub record EachHearsItsOwn (w : Setup) (t : List FrameStep) : Type 0 where
  pub servers : (s : ℕ) → packets.of_server s (trace_heard w t)
      ≡ (heard (at_server s) (of_server s t)).entries
  pub client : packets.of_client w (trace_heard w t) ≡ (heard (at_client w) (of_client w t)).entries
  pub mirror : packets.of_mirror (trace_heard w t) ≡ of_mirror t

-- In each trace of frames each node hears what its own list says.
abbrev pub NodesHearTheirOwn : Type 0
NodesHearTheirOwn = (w : Setup) (t : List FrameStep) → EachHearsItsOwn w t

-- The frames that were sent are those of the packets that were sent.
abbrev pub FramesAreOfPackets : Type 0
FramesAreOfPackets =
    (w : Setup) (t : List FrameStep)
    → frames_sent w t ≡ flat_map frames_of (sent_packets w (trace_heard w t))

-- In each trace a tag names one body.
abbrev pub TagsNameOneBody : Type 0
TagsNameOneBody =
    (w : Setup) (t : List Step) → IsTrace w t → ArePackets (sent_packets w t)
    → OneBodyOfEachTag (sent_packets w t)

-- What a trace of frames says is a trace: each packet that is heard was sent.
abbrev pub OnlySentIsHeard : Type 0
OnlySentIsHeard =
    (w : Setup) (t : List FrameStep) → IsFrameTrace w t → FitsFrames w t
    → IsTrace w (trace_heard w t)

-- Pieces that were sent give a packet with this state, taken in this order.
pub record PiecesHold (w : Setup) (t : List FrameStep) (key : Key) (state : State) : Type 0 where
  pub last : PieceParts
  pub others : List PieceParts
  pub each : (q : PieceParts) → Contains (last ∷ others) q → Contains (frames_sent w t) (Piece q)
  pub packet : PacketParts
  pub together : look_at_piece (all_taken [] others) last ≡ Gives packet
  pub state_is : carried_state packet.body ≡ Some state
  pub key_is : state.key ≡ key

-- A server's list of frames says what the server hears in the trace, and it sends what the trace
-- sends.
pub record ServerStands (w : Setup) (s : ℕ) (t : List FrameStep) : Type 0 where
  pub hears : heard_at (opening_of s) (server_entries s t) ≡ heard (at_server s) (of_server s t)
  pub sends :
      (c : Coming Entry SaveOutcome)
      → answers.frames (opening_of s) (server_entries s t) (frame_entry c)
      ≡ frames_of_step w t (OfServer s c)

-- Each server of each trace of frames stands so.
abbrev pub ServersStand : Type 0
ServersStand = (w : Setup) (s : ℕ) (t : List FrameStep) → ServerStands w s t
