-- How a verify state goes round: from its server to the client; into the client's note, to the
-- mirror and back, however often a note is lost; to a server again in a Saved; and into a check.
use Rattle.std.specs.Prelude.{◌≡◌, ℕ, List, ◌++◌, Some, Contains}
use Rattle.fc_base.specs.declared.fault.Fault.TheVariants.{Conflict}
use Rattle.fc_base.specs.declared.numbers.Key.{Key}
use Rattle.verify_state.specs.State.{State}
use Rattle.messages.specs.declared.packet.PacketParts.{PacketParts}
use Rattle.messages.specs.declared.body.Body.TheVariants as bodies
use Rattle.messages.specs.declared.frame.Frame.TheVariants.{Whole}
use Rattle.server_core.specs.Check.{With, progress}
use Rattle.client_core.specs.Inputs.{Deliver}
use Rattle.client_core.specs.Words.{kept_state, words_noted, refusal}
use Rattle.client_core.specs.Laws.{from_server}
use Rattle.client_core.specs.Packets.{to_server}
use Rattle.mirror_core.specs.Words as mirrors
use Rattle.net_world.specs.Setup.{Setup}
use Rattle.net_world.specs.Trace.{Step, opening_of, client_opening, mirror_opening, of_server, of_client, of_mirror, sent_packets}
use Rattle.net_world.specs.Holders.{taken_of, carried_state}

-- Each state that was sent in a State was taken by the server that its key names.
abbrev pub SentStatesWereTaken : Setup → List Step → Type 0
SentStatesWereTaken w t =
    (p : PacketParts) (jobs : ℕ) (state : State) →
    Contains (sent_packets w t) p → p.body ≡ bodies.State jobs state
    → Contains (taken_of state.key t) state

-- The state was sent to the client in a State, by the server that its key names.
abbrev pub WasSent : Setup → List Step → State → Type 0
WasSent w t state = (jobs : ℕ) × Contains (sent_packets w t)
    (from_server (bodies.State jobs state) state.key.server)

-- Each state that a packet carries was sent so: a State itself, a Saved, and a Copy.
abbrev pub CarriedStatesWereSent : Setup → List Step → Type 0
CarriedStatesWereSent w t =
    (p : PacketParts) (state : State) → Contains (sent_packets w t) p
    → carried_state p.body ≡ Some state → WasSent w t state

-- Each state that the client's note has was sent so, in whichever life it was noted.
abbrev pub KeptStatesWereSent : Setup → List Step → Type 0
KeptStatesWereSent w t =
    (state : State) → Contains (words_noted (client_opening w) (of_client w t)).kept state
    → WasSent w t state

-- Each state that the mirror's note has was sent so.
abbrev pub CopiedStatesWereSent : Setup → List Step → Type 0
CopiedStatesWereSent w t =
    (state : State) → Contains (mirrors.words_noted mirror_opening (of_mirror t)).kept state
    → WasSent w t state

-- There was a moment at which the client kept the state.
pub record WasKept (w : Setup) (t : List Step) (key : Key) (state : State) : Type 0 where
  pub later : List Step
  pub earlier : List Step
  pub split : t ≡ later ++ earlier
  pub kept_there : kept_state (client_opening w) (of_client w earlier) key ≡ Some state

-- Each state that was sent in a Saved was by then the kept one of its key.
abbrev pub SavedStatesWereKept : Setup → List Step → Type 0
SavedStatesWereKept w t =
    (p : PacketParts) (attempt : ℕ) (state : State) →
    Contains (sent_packets w t) p → p.body ≡ bodies.Saved attempt state
    → WasKept w t state.key state

-- Each state that a job is checked with was sent to its server.
abbrev pub CheckedStatesWereSent : Setup → List Step → Type 0
CheckedStatesWereSent w t =
    (s j : ℕ) (state : State) → progress (opening_of s) (of_server s t) j ≡ Some (With state) →
    (attempt : ℕ) × Contains (sent_packets w t) (to_server (bodies.Saved attempt state) s)

-- No packet that was sent is refused by the client as another state of a kept key.
abbrev pub NoPacketConflicts : Setup → List Step → Type 0
NoPacketConflicts w t =
    (p : PacketParts) → Contains (sent_packets w t) p →
    refusal (client_opening w) (of_client w t) (Deliver p) ≡ Some Conflict → ⊥

-- No packet that was sent is refused by the mirror as another state of a kept key.
abbrev pub NoCopyConflicts : Setup → List Step → Type 0
NoCopyConflicts w t =
    (p : PacketParts) → Contains (sent_packets w t) p →
    mirrors.refusal mirror_opening (of_mirror t) (Whole p) ≡ Some Conflict → ⊥
