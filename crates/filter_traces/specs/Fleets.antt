-- A fleet: the filters of a client, of its servers and of its mirror, if it has one, and what happens
-- to them, in one list, the newest first.
use Rattle.std.specs.Prelude.{◌≡◌, ◌<◌, ℕ, true, List, [], ◌∷◌, map}
use Rattle.messages.specs.declared.frame.Frame.{Frame}
use Rattle.disk_model.specs.declared.save_outcome.SaveOutcome.TheVariants.{Saved}
use Rattle.server_core.specs.Hearing.{FrameEntry as ServerEntry, Restart as ServerRestart, coming_of as server_coming}
use Rattle.client_core.specs.Hearing.{FrameEntry as ClientEntry, Restart, Renew, coming_of as client_coming}
use Rattle.client_core.specs.Note.{Says}
use Rattle.mirror_core.specs.History as mirror
use Rattle.mirror_core.specs.Note.{Says as MirrorSays}
use Rattle.mirror_core.specs.Words.{words_noted as mirror_noted}
use Rattle.net_world.specs.Setup.{Setup}
use Rattle.net_world.specs.Trace.{opening_of, client_opening, mirror_opening}
use Rattle.net_world.specs.Frames.{FrameStep, of_server, of_client, of_mirror, frames_sent, IsFrameTrace}
use Rattle.net_world.specs.InRange.{FitsFrames}
use Rattle.filters.specs.ClientLives.{ClientAt}
use Rattle.filters.specs.ClientSteps.{noted}
use Rattle.filters.specs.ServerAt.{ServerAt, no_checks, noted as server_noted}
use Rattle.filters.specs.ServerLives.{next_boot}
use Rattle.filters.specs.MirrorLives.{MirrorAt}
use Rattle.filter_traces.specs.Members.{Happening, Goes, client_member, server_member, mirror_member}

-- A fleet at some moment: its filters, and all frames that were sent, the oldest first.
pub record FleetAt : Type 0 where
  pub client : ClientAt
  pub servers : ℕ → ServerAt
  pub mirror : MirrorAt
  pub sent : List Frame

-- Something happens to the client's filter, to that of the server with this number, or to the
-- mirror's.
pub data FleetStep : Type 0 where
  AtClient : Happening → FleetStep
  AtServer : ℕ → Happening → FleetStep
  AtMirror : Happening → FleetStep

-- Something happens to the client's filter, and to no other.
pub record ClientGoes (w : Setup) (h : Happening) (at now : FleetAt) : Type 0 where
  pub goes : Goes (client_member w) h at.client now.client at.sent now.sent
  pub servers_are : (s : ℕ) → now.servers s ≡ at.servers s
  pub mirror_is : now.mirror ≡ at.mirror

-- Something happens to a server's filter, and to no other.
pub record ServerGoes (w : Setup) (s : ℕ) (h : Happening) (at now : FleetAt) : Type 0 where
  pub one_of : s < w.servers
  pub goes : Goes (server_member s) h (at.servers s) (now.servers s) at.sent now.sent
  pub client_is : now.client ≡ at.client
  pub others : (r : ℕ) → (r ≡ s → ⊥) → now.servers r ≡ at.servers r
  pub mirror_is : now.mirror ≡ at.mirror

-- Something happens to the mirror's filter, where there is one, and to no other.
pub record MirrorGoes (w : Setup) (h : Happening) (at now : FleetAt) : Type 0 where
  pub there : w.mirror ≡ true
  pub goes : Goes mirror_member h at.mirror now.mirror at.sent now.sent
  pub client_is : now.client ≡ at.client
  pub servers_are : (s : ℕ) → now.servers s ≡ at.servers s

-- A step of a fleet that is made so.
abbrev pub Steps : Setup → FleetAt → FleetStep → FleetAt → Type 0
Steps w at (AtClient h) now = ClientGoes w h at now
Steps w at (AtServer s h) now = ServerGoes w s h at now
Steps w at (AtMirror h) now = MirrorGoes w h at now

-- All that happened to a fleet: it has come from there to here.
abbrev pub Ran : Setup → FleetAt → List FleetStep → FleetAt → Type 0
Ran w first [] now = now ≡ first
Ran w first (step ∷ steps) now = (at : FleetAt) × Ran w first steps at × Steps w at step now

-- The last that came to a client is that it was restarted, or that it began anew.
abbrev pub IsFresh : List ClientEntry → Type 0
IsFresh (Restart mirror ∷ past) = Unit {0}
IsFresh (Renew g left ∷ past) = Unit {0}
IsFresh _ = ⊥

-- The client's filter begins behind this trace: that is all that came to it, and its note says what
-- that does.
pub record BeginsAtClient (w : Setup) (past : List FrameStep) (at : ClientAt) : Type 0 where
  pub list_is : map client_coming at.list ≡ of_client w past
  pub fresh : IsFresh at.list
  pub says : Says at.note (noted (client_opening w) at.list)

-- A server's filter begins behind this trace: that is all that came to it, it has saved its next
-- boot, and no check is under way.
pub record BeginsAtServer (s : ℕ) (past : List FrameStep) (at : ServerAt) : Type 0 where
  pub older : List ServerEntry
  pub list_is : map server_coming at.list ≡ of_server s past
  pub fresh : at.list ≡ ServerRestart Saved ∷ older
  pub saved : at.note ≡ next_boot (server_noted (opening_of s) older)
  pub checks : at.checks ≡ no_checks

-- The mirror's filter begins behind this trace: that is all that came to it, and its note says what
-- that does.
pub record BeginsAtMirror (past : List FrameStep) (at : MirrorAt) : Type 0 where
  pub older : List mirror.Entry
  pub list_is : at.list ≡ of_mirror past
  pub fresh : at.list ≡ mirror.Restart ∷ older
  pub says : MirrorSays at.note (mirror_noted mirror_opening at.list)

-- A fleet begins, over notes that say what those of a world do behind some trace: the empty one,
-- where all notes are empty; or one in which its nodes have served before. What was sent in that
-- was sent.
pub record FleetBegins (w : Setup) (first : FleetAt) : Type 0 where
  pub past : List FrameStep
  pub legal : IsFrameTrace w past
  pub fits : FitsFrames w past
  pub client : BeginsAtClient w past first.client
  pub servers : (s : ℕ) → BeginsAtServer s past (first.servers s)
  pub mirror : BeginsAtMirror past first.mirror
  pub sent : first.sent ≡ frames_sent w past
