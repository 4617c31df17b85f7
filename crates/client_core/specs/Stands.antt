-- Which lists a client stands for, and why none is opened.
use Rattle.std.specs.Prelude.{◌≡◌, ◌≢◌, ◌⊎◌, ℕ, ◌<◌, ◌≤◌, Bool, true, false, not, List, [], IsTrue}
use Rattle.fc_base.specs.declared.limits.TheConstants.{MAX_SERVERS}
use Rattle.fc_base.specs.declared.fault.Fault.{Fault}
use Rattle.fc_base.specs.declared.fault.Fault.TheVariants.{NoMemory, LoadFault, SaveFault, BadNote, BadGeneration}
use Rattle.disk_model.specs.Notes.{Note}
use Rattle.client_core.specs.declared.note.ClientNote.{ClientNote}
use Rattle.client_core.specs.declared.packet_client.PacketClient.{PacketClient}
use Rattle.messages.specs.Ranges.{is_generation}
use Rattle.client_core.specs.Note.{Says, new_note, spelling}
use Rattle.client_core.specs.History.{Opening, Entry}
use Rattle.client_core.specs.Life.{life}
use Rattle.client_core.specs.Lives.{LifeIs}
use Rattle.client_core.specs.Words.{is_on, words_noted, peers, shown_entries}

-- A client stands for a list where it is on as the list says, drives at most 8 servers, where the
-- durable bytes say what the list says, and where it knows of its peers and of its note, and keeps
-- of its requests, what it did before the first failed save.
pub record StandsFor {T : Type 0} (note : T → Note) (client : PacketClient T) (opening : Opening)
    (past : List Entry) : Type 0 where
  pub on : client.durable.down ≡ not (is_on past)
  pub peers : client.peers ≡ peers opening (shown_entries past)
  pub few : opening.servers ≤ MAX_SERVERS
  pub durable : Says (note client.durable.notes).bytes (words_noted opening past)
  pub knows : client.noted ≡ words_noted opening (shown_entries past)
  pub lives : LifeIs client.life (life opening (shown_entries past))

-- The bytes are no note; or they are empty, and with a mirror a client isn't restarted over such.
abbrev pub IsBadNote : Bool → List ℕ → Type 0
IsBadNote mirror bytes =
    ((said : ClientNote) → Says bytes said → ⊥) ⊎ ((mirror ≡ true) × (bytes ≡ []))

-- Why no client is opened: the device failed, the bytes are no note that it may have, or memory ran
-- out. The durable bytes stay as they were.
abbrev pub NotOpened : Bool → Note → Note → Fault → Type 0
NotOpened mirror old new LoadFault = (old.failures < new.failures) × (new.bytes ≡ old.bytes)
NotOpened mirror old new BadNote = (new ≡ old) × IsBadNote mirror old.bytes
NotOpened mirror old new NoMemory = new ≡ old
NotOpened mirror old new _ = ⊥

-- Why no client is renewed: no generation has the number; the device failed to load, or the note
-- isn't empty; memory ran out; or the device failed in the save, and the durable bytes are the old
-- or the new.
abbrev pub NotRenewed : ℕ → Note → Note → Fault → Type 0
NotRenewed g old new BadGeneration = (new ≡ old) × (is_generation g ≡ false)
NotRenewed g old new LoadFault =
    (old.failures < new.failures) × (new.bytes ≡ old.bytes) × IsTrue (is_generation g)
NotRenewed g old new BadNote = (new ≡ old) × IsTrue (is_generation g) × (old.bytes ≢ [])
NotRenewed g old new NoMemory = new ≡ old
NotRenewed g old new SaveFault =
    (old.failures < new.failures) × IsTrue (is_generation g) × (old.bytes ≡ [])
    × ((new.bytes ≡ old.bytes) ⊎ (new.bytes ≡ spelling (new_note g)))
NotRenewed g old new _ = ⊥
