-- What holds of every list of what came to a mirror.
use Rattle.std.specs.Prelude.{◌≡◌, ◌⊎◌, ℕ, ◌≤◌, true, List, [], ◌∷◌, ◌++◌, Some, Contains, IsTrue}
use Rattle.std.specs.List.{AllByRecursion}
use Rattle.fc_base.specs.declared.numbers.Key.{Key}
use Rattle.verify_state.specs.State.{State}
use Rattle.messages.specs.declared.packet.PacketParts.{PacketParts}
use Rattle.messages.specs.declared.body.Body.TheVariants as bodies
use Rattle.messages.specs.declared.frame.Frame.TheVariants.{Whole}
use Rattle.messages.specs.declared.node.Node.TheVariants as nodes
use Rattle.messages.specs.Bodies.{kind_of}
use Rattle.messages.specs.Kinds.{is_of_mirror}
use Rattle.messages.specs.Laws.{IsPacket}
use Rattle.mirror_core.specs.declared.note.MirrorNote.{MirrorNote}
use Rattle.mirror_core.specs.Note.{IsNoted}
use Rattle.mirror_core.specs.History.{Entry, Met}
use Rattle.mirror_core.specs.Words.{is_on, words_noted, generation, kept_state, shown_entries}
use Rattle.mirror_core.specs.Packets.{to_client, copy_of, packets}

-- The packet that an event brings.
abbrev pub packet_in : Entry → List PacketParts
packet_in (Met (Whole p) left) = p ∷ []
packet_in _ = []

-- The packets that came, the newest first.
abbrev pub packets_come : List Entry → List PacketParts
packets_come [] = []
packets_come (entry ∷ past) = packet_in entry ++ packets_come past

-- All that came is within its ranges.
abbrev pub CameInRange : List Entry → Type 0
CameInRange past = AllByRecursion IsPacket (packets_come past)

-- A copy of the client's to the mirror.
abbrev pub from_client : State → PacketParts
from_client state = record { from = nodes.Client; to = nodes.Mirror; body = bodies.Copy state }

-- A kept state is never replaced, whatever comes.
abbrev pub FirstKeptStays : Type 0
FirstKeptStays =
    (opening : MirrorNote) (newer past : List Entry) (key : Key) (state : State) →
    kept_state opening past key ≡ Some state → kept_state opening (newer ++ past) key ≡ Some state

-- The generation never falls.
abbrev pub GenerationsRise : Type 0
GenerationsRise =
    (opening : MirrorNote) (newer past : List Entry) →
    generation opening past ≤ generation opening (newer ++ past)

-- A state that is kept, and was not at the opening, came in a Copy of the client.
abbrev pub KeptWasSent : Type 0
KeptWasSent =
    (opening : MirrorNote) (past : List Entry) (key : Key) (state : State) →
    kept_state opening past key ≡ Some state →
    (kept_state opening [] key ≡ Some state) ⊎ Contains (packets_come past) (from_client state)

-- Each state in the note was there at the opening, or came in a Copy of the client.
abbrev pub NotedWasSent : Type 0
NotedWasSent =
    (opening : MirrorNote) (past : List Entry) (state : State) →
    Contains (words_noted opening past).kept state →
    Contains opening.kept state ⊎ Contains (packets_come past) (from_client state)

-- Each Copy that is sent has the kept state of its key.
abbrev pub CopiesAreKept : Type 0
CopiesAreKept =
    (opening : MirrorNote) (past : List Entry) (entry : Entry) (state : State) → IsNoted opening →
    Contains (packets opening past entry) (copy_of state) →
    kept_state opening past state.key ≡ Some state

-- Each Copy that is sent is of a state in the note.
abbrev pub CopiesAreNoted : Type 0
CopiesAreNoted =
    (opening : MirrorNote) (past : List Entry) (entry : Entry) (state : State) →
    Contains (packets opening past entry) (copy_of state) →
    Contains (words_noted opening past).kept state

-- A CopyOk is sent only for a state that is kept by then.
abbrev pub CopyOksAreFor : Type 0
CopyOksAreFor =
    (opening : MirrorNote) (past : List Entry) (entry : Entry) (run server job : ℕ) →
    Contains (packets opening past entry) (to_client (bodies.CopyOk run server job)) →
    (state : State)
    × (kept_state opening (entry ∷ past) (record { run = run; server = server; job = job })
    ≡ Some state)

-- A Granted is sent only of the generation that the note has by then.
abbrev pub GrantsAreNoted : Type 0
GrantsAreNoted =
    (opening : MirrorNote) (past : List Entry) (entry : Entry) (granted : ℕ) →
    Contains (packets opening past entry) (to_client (bodies.Granted granted)) →
    generation opening (entry ∷ past) ≡ granted

-- A packet of the mirror to the client, of a kind that mirrors send.
abbrev pub GoesToClient : PacketParts → Type 0
GoesToClient p =
    (p.from ≡ nodes.Mirror) × (p.to ≡ nodes.Client) × IsTrue (is_of_mirror (kind_of p.body))

-- Each packet of the mirror goes to the client, and is of a kind that mirrors send.
abbrev pub PacketsGoToTheClient : Type 0
PacketsGoToTheClient =
    (opening : MirrorNote) (past : List Entry) (entry : Entry)
    → AllByRecursion GoesToClient (packets opening past entry)

-- A mirror that is on answers its looks from all that came.
abbrev pub LooksAtAll : Type 0
LooksAtAll = (past : List Entry) → is_on past ≡ true → shown_entries past ≡ past

-- A note that keeps its ranges goes on to, where the packets that come keep theirs.
abbrev pub NotesKeepRanges : Type 0
NotesKeepRanges =
    (opening : MirrorNote) (past : List Entry) →
    IsNoted opening → CameInRange past → IsNoted (words_noted opening past)

-- What is sent is within the ranges of packets, where what came is within its.
abbrev pub PacketsAreInRange : Type 0
PacketsAreInRange =
    (opening : MirrorNote) (past : List Entry) (entry : Entry) →
    IsNoted opening → CameInRange (entry ∷ past) →
    AllByRecursion IsPacket (packets opening past entry)
