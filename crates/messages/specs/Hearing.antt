-- What a node makes of the frames that come to it: the packets that it hears, and what has come
-- together of pieces.
use Rattle.std.specs.Prelude.{Bool, ◌&&◌, if◌then◌else◌, List, [], ◌∷◌, Option, Some, None, is_some}
use Rattle.std.specs.List.{flat_map}
use Rattle.fc_base.specs.declared.fault.Fault.{Fault}
use Rattle.messages.specs.declared.packet.PacketParts.{PacketParts}
use Rattle.messages.specs.declared.piece.PieceParts.{PieceParts}
use Rattle.messages.specs.declared.frame.Frame.{Frame}
use Rattle.messages.specs.declared.frame.Frame.TheVariants.{Whole, Piece}
use Rattle.messages.specs.Pieces.{frames_of}
use Rattle.messages.specs.Assemblies as looks
use Rattle.messages.specs.Assemblies.{Row, Look, look_at_piece, rows_after_piece}

-- What has to be known of a node: X is what it hears, E are the entries of its list of packets, L
-- is what a save left.
pub record Rules (X E L : Type 0) : Type 0 where
  pub delivers : PacketParts → X  -- a packet, as it is heard
  pub met : X → L → E  -- the entry of what is heard
  pub refusal : List E → X → Option Fault  -- why what is heard behind these entries is refused
  pub is_on : List E → Bool  -- behind these entries it is on
  pub is_for : PieceParts → Bool  -- the piece is for it
  pub ends : E → Bool  -- a cut or a restart

-- What a node has heard: the entries of packets, and what has come together of pieces.
pub record Heard (E : Type 0) : Type 0 where
  pub entries : List E
  pub rows : List Row

-- What happens to a node: a frame is delivered, and the save that it asks for leaves this; or
-- anything else.
pub data Coming (E L : Type 0) : Type 0 where
  Comes : Frame → L → Coming E L
  Happens : E → Coming E L

-- What a frame says to a node: a packet; nothing yet; bytes that aren't the packet of their tag; or
-- it isn't for the node.
pub data Meaning : Type 0 where
  Says : PacketParts → Meaning
  Waits : Meaning
  Spoils : Meaning
  Strays : Meaning

-- What a piece that is for the node says, by what it gives.
abbrev pub said_by : Look → Meaning
said_by (looks.Gives p) = Says p
said_by looks.Waits = Waits
said_by looks.NoPacket = Spoils

-- A whole packet says itself, and a piece what comes together with it.
abbrev pub meaning : {X E L : Type 0} → Rules X E L → Heard E → Frame → Meaning
meaning r h (Whole p) = Says p
meaning r h (Piece q) =
    if r.is_on h.entries && r.is_for q then said_by (look_at_piece h.rows q) else Strays

-- The entry that is heard: only a packet is one.
abbrev pub heard_by : {X E L : Type 0} → Rules X E L → L → Meaning → Option E
heard_by r left (Says p) = Some (r.met (r.delivers p) left)
heard_by r left Waits = None
heard_by r left Spoils = None
heard_by r left Strays = None

-- The entry that is heard of what happens.
abbrev pub entry_of : {X E L : Type 0} → Rules X E L → Heard E → Coming E L → Option E
entry_of r h (Comes f left) = heard_by r left (meaning r h f)
entry_of r h (Happens e) = Some e

-- What has come together behind a piece: one that isn't for the node, and one whose packet is
-- refused, leave it as it was, and the others are taken.
abbrev pub rows_by : {X E L : Type 0} → Rules X E L → Heard E → PieceParts → Meaning → List Row
rows_by r h q (Says p) =
    if is_some (r.refusal h.entries (r.delivers p)) then h.rows else rows_after_piece h.rows q
rows_by r h q Waits = rows_after_piece h.rows q
rows_by r h q Spoils = rows_after_piece h.rows q
rows_by r h q Strays = h.rows

-- What has come together behind what happens: a whole packet leaves it as it was, and a cut or a
-- restart loses it.
abbrev pub rows_of : {X E L : Type 0} → Rules X E L → Heard E → Coming E L → List Row
rows_of r h (Comes (Whole p) left) = h.rows
rows_of r h (Comes (Piece q) left) = rows_by r h q (meaning r h (Piece q))
rows_of r h (Happens e) = if r.ends e then [] else h.rows

-- The entries, with one more where there is one.
abbrev pub with_entry : {E : Type 0} → Option E → List E → List E
with_entry None past = past
with_entry (Some e) past = e ∷ past

-- What a node has heard behind all that happened to it, the newest first.
abbrev pub heard : {X E L : Type 0} → Rules X E L → List (Coming E L) → Heard E
heard r [] = record { entries = []; rows = [] }
heard r (c ∷ past) = record {
  entries = with_entry (entry_of r (heard r past) c) (heard r past).entries;
  rows = rows_of r (heard r past) c;
}

-- The frames of the packets that a node sends with what it hears; none where it hears nothing.
abbrev pub frames_by : {E : Type 0} → (List E → E → List PacketParts) → List E → Option E
    → List Frame
frames_by sends past None = []
frames_by sends past (Some e) = flat_map frames_of (sends past e)
