-- A filter of a fleet, and what may happen to it.
use Rattle.std.specs.Prelude.{◌≡◌, ◌⊎◌, ℕ, Bool, not, ◌&&◌, ◌||◌, nat_lt, List, [], ◌∷◌, ◌++◌, Contains, Option, Some, None, IfSome, IsTrue}
use Rattle.std.specs.List.{flat_map}
use Rattle.fc_base.specs.Counted.{has}
use Rattle.messages.specs.declared.frame.Frame.{Frame}
use Rattle.messages.specs.declared.node.Node.{Node}
use Rattle.messages.specs.declared.node.Node.TheVariants.{Server, Client, Mirror}
use Rattle.messages.specs.FrameBytes.{frame_spelling}
use Rattle.messages.specs.Pieces.{frames_of}
use Rattle.messages.specs.Ranges.{is_generation}
use Rattle.disk_model.specs.declared.save_outcome.SaveOutcome.TheVariants.{Saved}
use Rattle.server_core.specs.declared.note.ServerNote.{ServerNote}
use Rattle.server_core.specs.Note.{Says as ServerSays}
use Rattle.server_core.specs.Hearing.{FrameEntry as ServerEntry, Cut as ServerCut, Restart as ServerRestart}
use Rattle.server_core.specs.FrameAnswers.{frames as server_frames}
use Rattle.client_core.specs.Hearing.{FrameEntry as ClientEntry, Cut as ClientCut, Restart as ClientRestart, Renew, Lose, packets_heard}
use Rattle.client_core.specs.FrameAnswers.{frames as client_frames}
use Rattle.client_core.specs.Numbering.{generations}
use Rattle.client_core.specs.Note.{new_note, spelling}
use Rattle.mirror_core.specs.History as mirror
use Rattle.mirror_core.specs.Packets.{packets as mirror_packets}
use Rattle.net_world.specs.Setup.{Setup}
use Rattle.net_world.specs.Trace.{opening_of, client_opening, mirror_opening}
use Rattle.net_world.specs.Frames.{to_of}
use Rattle.filters.specs.declared.kinds.InRecordKind.{InRecordKind}
use Rattle.filters.specs.declared.kinds.InRecordKind.TheVariants as told
use Rattle.filters.specs.Kinds.{told_numbered}
use Rattle.filters.specs.Lives.{RecordParts}
use Rattle.filters.specs.NodeCuts.{CutsAnswer}
use Rattle.filters.specs.ClientSteps.{noted}
use Rattle.filters.specs.ClientLives.{ClientAt, ClientTakes}
use Rattle.filters.specs.ServerAt.{ServerAt, no_checks}
use Rattle.filters.specs.ServerLives.{ServerTakes, next_boot}
use Rattle.filters.specs.MirrorLives.{MirrorAt, MirrorTakes}

-- What happens to a filter: it reads a record, and writes this answer; it is cut between two
-- answers; or it is cut once just this part of an answer was written. Behind a cut the next one
-- begins, over the note that was saved last.
pub data Happening : Type 0 where
  Answers : RecordParts → List ℕ → Happening
  Ends : Happening
  EndsWithin : RecordParts → List ℕ → Happening

-- What has to be known of a filter of a fleet: S is where it is at some moment, E what comes to its
-- node.
pub record Member (S E : Type 0) : Type 1 where
  pub node : Node  -- which one it is
  pub list : S → List E  -- all that came to its node, the newest first
  pub Takes : S → RecordParts → S → List ℕ → Type 0  -- what it makes of a record, and answers
  pub Within : S → S → List ℕ → S → Type 0  -- what a cut behind a part of an answer leaves of it
  pub Begins : S → S → Type 0  -- how the next one begins, where a cut left this
  pub frames : List E → E → List Frame  -- the frames that are sent with what comes

-- A client may be restarted in a fleet: with its mirror over a note of a generation.
abbrev pub may_restart : Setup → List ClientEntry → Bool
may_restart w past = not w.mirror || nat_lt 0 (noted (client_opening w) past).generation

-- A client may begin anew in a fleet: with a mirror, in a generation in which none has begun.
abbrev pub may_renew : Setup → List ClientEntry → ℕ → Bool
may_renew w past g =
    w.mirror
    && (is_generation g && not (has (generations (packets_heard (client_opening w) past)) g))

-- A client is restarted over its note.
pub record ClientRestarts (w : Setup) (left now : ClientAt) : Type 0 where
  pub may : IsTrue (may_restart w left.list)
  pub is : now ≡ record {
    list = ClientRestart w.mirror ∷ (ClientCut ∷ left.list);
    note = left.note;
  }

-- The client's note is lost, and the client begins anew.
pub record ClientRenews (w : Setup) (left now : ClientAt) : Type 0 where
  pub generation : ℕ
  pub may : IsTrue (may_renew w left.list generation)
  pub is : now ≡ record {
    list = Renew generation Saved ∷ (Lose ∷ (ClientCut ∷ left.list));
    note = spelling (new_note generation);
  }

-- The filter of the client, as one of a fleet.
abbrev pub client_member : Setup → Member ClientAt ClientEntry
client_member w = record {
  node = Client;
  list = λ at. at.list;
  Takes = ClientTakes (client_opening w);
  Within = CutsAnswer (λ (at : ClientAt). at.note);
  Begins = λ left now. ClientRestarts w left now ⊎ ClientRenews w left now;
  frames = client_frames (client_opening w);
}

-- A server begins anew over its note, in the next boot.
abbrev pub ServerBegins : ServerAt → ServerAt → Type 0
ServerBegins left now =
    (said : ServerNote) × ServerSays left.note said
    × (now ≡ record {
      list = ServerRestart Saved ∷ (ServerCut ∷ left.list);
      note = next_boot said;
      checks = no_checks;
    })

-- The filter of the server with this number.
abbrev pub server_member : ℕ → Member ServerAt ServerEntry
server_member s = record {
  node = Server s;
  list = λ at. at.list;
  Takes = ServerTakes (opening_of s);
  Within = CutsAnswer (λ (at : ServerAt). at.note);
  Begins = ServerBegins;
  frames = server_frames (opening_of s);
}

-- The filter of the mirror, as one of a fleet.
abbrev pub mirror_member : Member MirrorAt mirror.Entry
mirror_member = record {
  node = Mirror;
  list = λ at. at.list;
  Takes = MirrorTakes mirror_opening;
  Within = CutsAnswer (λ (at : MirrorAt). at.note);
  Begins = λ left now. now
      ≡ record { list = mirror.Restart ∷ (mirror.Cut ∷ left.list); note = left.note };
  frames = λ past e. flat_map frames_of (mirror_packets mirror_opening past e);
}

-- A record was read of which this part of the answer was written; what that left was cut, and the
-- next filter began.
pub record IsCutWithin {S E : Type 0} (m : Member S E) (at : S) (r : RecordParts)
    (part : List ℕ) (now : S) : Type 0 where
  pub after : S
  pub left : S
  pub rest : List ℕ
  pub takes : m.Takes at r after (part ++ rest)
  pub within : m.Within at after part left
  pub begins : m.Begins left now

-- What becomes of a filter.
abbrev pub Becomes : {S E : Type 0} → Member S E → S → Happening → S → Type 0
Becomes m at (Answers r answer) now = m.Takes at r now answer
Becomes m at Ends now = m.Begins at now
Becomes m at (EndsWithin r part) now = IsCutWithin m at r part now

-- The bytes of a record of this kind, if that brings a frame.
abbrev pub frame_bytes_if : Option InRecordKind → List ℕ → Option (List ℕ)
frame_bytes_if (Some told.Frame) body = Some body
frame_bytes_if _ body = None

-- The bytes of the frame that a record brings.
abbrev pub frame_bytes_in : RecordParts → Option (List ℕ)
frame_bytes_in r = frame_bytes_if (told_numbered r.kind) r.body

-- The bytes of the frame that is read, if one is.
abbrev pub frame_bytes_read : Happening → Option (List ℕ)
frame_bytes_read (Answers r answer) = frame_bytes_in r
frame_bytes_read Ends = None
frame_bytes_read (EndsWithin r part) = frame_bytes_in r

-- The bytes are those of a frame that is among those which were sent, and goes to this node.
pub record WasSentTo (sent : List Frame) (node : Node) (bytes : List ℕ) : Type 0 where
  pub frame : Frame
  pub was_sent : Contains sent frame
  pub bytes_are : bytes ≡ frame_spelling frame
  pub goes_to : to_of frame ≡ node

-- The frames that were sent with what came to a node behind an older list, the oldest first.
abbrev pub sent_since : {E : Type 0} → (List E → E → List Frame) → List E → List E → List Frame
sent_since frames older [] = []
sent_since frames older (e ∷ more) =
    sent_since frames older more ++ frames (more ++ older) e

-- Something happens to a filter of a fleet in which these frames were sent: what it reads as a frame
-- are the bytes of one that was sent to it before. What comes to its node is added to its list, and what is sent with that to
-- the frames.
pub record Goes {S E : Type 0} (m : Member S E) (h : Happening) (at now : S)
    (old new : List Frame) : Type 0 where
  pub reads : IfSome (frame_bytes_read h) (WasSentTo old m.node)
  pub becomes : Becomes m at h now
  pub more : List E
  pub list_is : m.list now ≡ more ++ m.list at
  pub sent_is : new ≡ old ++ sent_since m.frames (m.list at) more
