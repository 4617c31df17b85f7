-- Which lists a server that takes packets stands for, and how its step ends.
use Rattle.std.specs.Prelude.{◌≡◌, ◌⊎◌, ℕ, ◌+◌, ◌-◌, ◌^◌, ◌<◌, true, not}
use Rattle.std.specs.Prelude.{List, ◌∷◌, Some, Result, Ok, Err}
use Rattle.std.specs.List.{AllByRecursion, flat_map}
use Rattle.fc_base.specs.declared.fault.Fault.{Fault}
use Rattle.fc_base.specs.declared.fault.Fault.TheVariants.{NoMemory, LoadFault, SaveFault, BadNote, NumbersSpent}
use Rattle.fc_base.specs.declared.fault.FaultSort.{FaultSort}
use Rattle.fc_base.specs.declared.fault.FaultSort.TheVariants as sorts
use Rattle.fc_base.specs.Fault.{sort_of}
use Rattle.disk_model.specs.declared.save_outcome.SaveOutcome.TheVariants.{Saved}
use Rattle.disk_model.specs.SaveOutcome.{saved_for}
use Rattle.disk_model.specs.Notes.{Note}
use Rattle.node.specs.Steps.{Steps}
use Rattle.messages.specs.FramesOf.{spelled_frames}
use Rattle.messages.specs.Laws.{IsPacket}
use Rattle.server_core.specs.Inputs.{PacketInput}
use Rattle.server_core.specs.declared.outs.Outs.{Outs}
use Rattle.server_core.specs.declared.packet_server.PacketServer.{PacketServer}
use Rattle.server_core.specs.History.{Opening, Entry, Met, Restart}
use Rattle.server_core.specs.declared.note.ServerNote.{ServerNote}
use Rattle.server_core.specs.Note.{Says, spelling}
use Rattle.server_core.specs.Request.{ToStart}
use Rattle.server_core.specs.Words.{Staged, is_on, words_noted, due, due_by}
use Rattle.server_core.specs.Replies.{Now, replies}
use Rattle.server_core.specs.Answers.{now, refusal, packets, issue, act, shown_entries}
use Rattle.server_core.specs.Bounds.{AreShort}
use Rattle.server_core.specs.Ranges.{OpensInRange, CameInRange}
use Rattle.server_core.specs.Framed.{frames_to_client}
use Rattle.server_core.specs.Handles.{sent_alone}
use Rattle.server_core.specs.Stands.{MachineIs}
use Rattle.server_core.specs.WordsAfter.{begun_by}

-- A server stands for a list where it is on or down as the list says, where the durable bytes say
-- what the list says, and where it keeps what the list said before the first failed save.
pub record StandsFor {T : Type 0} (note : T → Note) (server : PacketServer T) (opening : Opening)
    (past : List Entry) : Type 0 where
  pub on : server.durable.down ≡ not (is_on past)
  pub durable : Says (note server.durable.notes).bytes (words_noted opening past)
  pub keeps : MachineIs server.machine (now opening (shown_entries past))

-- A Start that is due isn't answered: memory ran out, and nothing changes; or the device failed,
-- and the durable bytes are the new or the old, and the server is down.
abbrev pub Unstarted : {T : Type 0} → (T → Note) → ℕ → FaultSort → Fault → PacketServer T
    → PacketServer T → Type 0
Unstarted note run sorts.Memory fault old new =
    (fault ≡ NoMemory) × (note new.durable.notes ≡ note old.durable.notes)
    × (new.durable.down ≡ old.durable.down) × (new.machine ≡ old.machine)
Unstarted note run sorts.Save fault old new =
    ((note old.durable.notes).failures < (note new.durable.notes).failures)
    × (((note new.durable.notes).bytes ≡ (note old.durable.notes).bytes)
    ⊎ ((note new.durable.notes).bytes
    ≡ spelling (record { boot = old.machine.boot; last_run = run })))
    × (new.durable.down ≡ true) × (new.machine ≡ old.machine)
Unstarted note run sorts.Refusal fault old new = ⊥

-- How a Start that is due ends: the run is durable and begins, or it isn't answered.
abbrev pub Starts : {T : Type 0} → (T → Note) → ℕ → PacketServer T → PacketServer T
    → Result Outs Fault → Type 0
Starts note run old new (Ok outs) =
    (note new.durable.notes ≡ record (note old.durable.notes)
    { bytes = spelling (record { boot = old.machine.boot; last_run = run }) })
    × (new.durable.down ≡ old.durable.down)
    × ((words : Now) (s : Staged) → MachineIs old.machine words
    → due_by true words.last words.staged words.run (ToStart run) ≡ Some s
    → (outs ≡ sent_alone (frames_to_client words.server (replies words (ToStart run))))
    × MachineIs new.machine (begun_by words s))
Starts note run old new (Err fault) = Unstarted note run (sort_of fault) fault old new

-- What an answered input leaves in the list: a Start that is due was saved.
abbrev pub answered_entry : Opening → List Entry → PacketInput → Entry
answered_entry opening past e = Met e (saved_for (due opening past e))

-- What is answered and sent is what the list says; and where what came before keeps its ranges, the
-- packets that are sent keep theirs, and their frames are few and short.
pub record Sends (opening : Opening) (past : List Entry) (e : PacketInput) (outs : Outs) : Type 0 where
  pub frames_are : outs.frames
      ≡ flat_map spelled_frames (packets opening past (answered_entry opening past e))
  pub issue_is : outs.issue ≡ issue opening past e
  pub act_is : outs.act ≡ act opening past e
  pub short : OpensInRange opening → CameInRange past → AreShort outs.frames
  pub ranges : OpensInRange opening → CameInRange past
      → AllByRecursion IsPacket (packets opening past (answered_entry opening past e))

-- The steps of a server that takes packets: its note, what its list says of an input, and what is
-- answered and sent. A refused input leaves it as it was.
abbrev pub steps : {T : Type 0} → (T → Note) → Opening →
    Steps (PacketServer T) PacketInput Entry Staged Outs
steps note opening = record {
  words = record {
    is_up = is_on;
    refusal = refusal opening;
    due = due opening;
    met = Met;
    spelled = λ past. spelling (words_noted opening past);
  };
  note = λ server. note server.durable.notes;
  StandsFor = λ past server. StandsFor note server opening past;
  Sends = Sends opening;
  Stays = λ past e server. StandsFor note server opening past;
}

-- For each list whose words the note said, the server stands for it with the restart. The note said
-- something, so there is such a list: the empty one. Now it has the next boot.
pub record Restarts {T : Type 0} (note : T → Note) (me : ℕ) (notes : T)
    (server : PacketServer T) : Type 0 where
  pub said : ServerNote
  pub says : Says (note notes).bytes said
  pub leaves : note server.durable.notes ≡ record (note notes)
      { bytes = spelling (record said { boot = said.boot + 1 }) }
  pub stands :
      (opening : Opening) (past : List Entry) → opening.me ≡ me
      → Says (note notes).bytes (words_noted opening past)
      → StandsFor note server opening (Restart Saved ∷ past)

-- The bytes said something that left a boot, and they are still there, or those of the next boot
-- are.
abbrev pub IsHalfSaved : List ℕ → List ℕ → Type 0
IsHalfSaved old new =
    (n : ServerNote) × Says old n × (n.boot < 2 ^ 64 - 1)
    × ((new ≡ old) ⊎ (new ≡ spelling (record { boot = n.boot + 1; last_run = n.last_run })))

-- Why a server isn't opened: the device failed, the bytes are no note, the boots are used up,
-- memory ran out, or the save failed; and what the notes then hold.
abbrev pub NotOpened : Note → Note → Fault → Type 0
NotOpened old new LoadFault = (old.failures < new.failures) × (new.bytes ≡ old.bytes)
NotOpened old new BadNote = (new ≡ old) × ((n : ServerNote) → Says old.bytes n → ⊥)
NotOpened old new NumbersSpent =
    (new ≡ old) × ((n : ServerNote) → Says old.bytes n → n.boot ≡ 2 ^ 64 - 1)
NotOpened old new NoMemory = new ≡ old
NotOpened old new SaveFault = (old.failures < new.failures) × IsHalfSaved old.bytes new.bytes
NotOpened old new _ = ⊥

-- What a note says is read, where a boot is left; else nothing of the note changes but the count of
-- failures.
abbrev pub IsRead : Note → Note → Result ServerNote Fault → Type 0
IsRead old new (Ok n) = (new ≡ old) × Says old.bytes n × (n.boot < 2 ^ 64 - 1)
IsRead old new (Err fault) = NotOpened old new fault

-- How a restart ends.
abbrev pub Opens : {T : Type 0} → (T → Note) → ℕ → T → Result (PacketServer T) (T × Fault) → Type 0
Opens note me notes (Ok server) = Restarts note me notes server
Opens note me notes (Err e) = NotOpened (note notes) (note e.0) e.1
