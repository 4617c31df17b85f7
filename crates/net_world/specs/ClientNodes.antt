-- What kind of node the client of a world is, and how its calls end.
use Rattle.std.specs.Prelude.{◌≡◌, ◌⊎◌, ℕ, Bool, true, false, ◌&&◌, List, [], ◌∷◌}
use Rattle.std.specs.Prelude.{Result, Ok, Err}
use Rattle.fc_base.specs.declared.fault.Fault.{Fault}
use Rattle.fc_base.specs.declared.fault.Fault.TheVariants.{BadNote, NodeOn, NoSave}
use Rattle.fc_base.specs.Fault.{sort_of}
use Rattle.disk_model.specs.MemNotes.{Saved as Kept, note_of}
use Rattle.disk_model.specs.declared.save_outcome.SaveOutcome.TheVariants.{Saved}
use Rattle.client_core.specs.declared.client.Client.{Client}
use Rattle.client_core.specs.Inputs.{FrameInput}
use Rattle.client_core.specs.History.{Opening}
use Rattle.client_core.specs.declared.note.ClientNote.{ClientNote}
use Rattle.client_core.specs.Note.{Says, is_blank}
use Rattle.client_core.specs.Words.{words_noted}
use Rattle.client_core.specs.Saves.{Addition}
use Rattle.client_core.specs.Hearing.{FrameEntry, Cut, Restart, Renew, Lose, packets_heard, is_up}
use Rattle.client_core.specs.FrameEnds.{steps}
use Rattle.client_core.specs.Answers as core
use Rattle.client_core.specs.declared.outs.Outs.{Outs}
use Rattle.node.specs.declared.power.Power.{Power}
use Rattle.node.specs.declared.power.Power.TheVariants.{Off}
use Rattle.node.specs.Kinds.{Kind}
use Rattle.net_world.specs.declared.told.WorldAnswer.{WorldAnswer}
use Rattle.net_world.specs.ClientAnswers.{world_answer}
use Rattle.net_world.specs.Nodes as nodes
use Rattle.net_world.specs.Nodes.{Answers, Faults, Starts}
use Rattle.node.specs.Kinds.{lost_by}

-- The client of a world.
abbrev pub ClientNode : Type 0
ClientNode = Power (Client Kept) Kept

-- A client that is off has no note.
abbrev pub HasNone : ClientNode → Type 0
HasNone (Off notes) = (note_of notes).bytes ≡ []
HasNone _ = ⊥

-- A note that says nothing has no bytes.
abbrev pub IsEmptyIfBlank : List ℕ → ClientNote → Type 0
IsEmptyIfBlank bytes n = (bytes ≡ []) ⊎ (is_blank n ≡ false)

-- The notes say what the list says, without bytes where that is nothing.
abbrev pub IsNoteOf : Opening → List FrameEntry → Kept → Type 0
IsNoteOf opening past notes =
    Says (note_of notes).bytes (words_noted opening (packets_heard opening past))
    × IsEmptyIfBlank (note_of notes).bytes (words_noted opening (packets_heard opening past))

-- The kind of the client of a world that was opened so: one over notes in memory, which are empty
-- for as long as they say nothing.
abbrev pub client_nodes : Opening →
    Kind (Client Kept) Kept FrameInput FrameEntry Addition (List (List ℕ))
client_nodes opening = record {
  core = steps note_of opening;
  note = note_of;
  Says = IsNoteOf opening;
  cut = Cut;
}

-- For which lists the client of a world stands.
abbrev pub Stands : Opening → List FrameEntry → ClientNode → Type 0
Stands opening = nodes.Stands (client_nodes opening)

-- What is answered: the number of the run or of the attempt, if one has begun.
abbrev pub answer_to : Opening → List FrameEntry → FrameInput → WorldAnswer
answer_to opening past e = world_answer (core.answer_to opening past e)

-- How a call ends: as what comes to a node does, and with that number.
abbrev pub Asks : Opening → List FrameEntry → FrameInput → ClientNode → Result Outs Fault → Type 0
Asks opening past e new (Ok asked) =
    (asked.answer ≡ core.answer_to opening past e)
    × Answers (client_nodes opening) past e new asked.frames
Asks opening past e new (Err fault) = Faults (client_nodes opening) past e (sort_of fault) fault new

-- There is a mirror, and the note says nothing.
abbrev pub lacks_note : Opening → List FrameEntry → Bool → Bool
lacks_note opening past mirror =
    mirror && is_blank (words_noted opening (packets_heard opening past))

-- How a restart ends: the client runs, unless it has a mirror and no note.
abbrev pub Restarts : Opening → List FrameEntry →
    Bool → ClientNode → Result (Unit {0}) Fault → Type 0
Restarts opening past mirror =
    Starts (client_nodes opening) past (lacks_note opening past mirror) false BadNote
    (Restart mirror)

-- How the loss of the note ends: the client is off, or nothing changes.
abbrev pub Loses : Opening → List FrameEntry → ClientNode → Result (Unit {0}) Fault → Type 0
Loses opening past new (Ok _) = (is_up opening past ≡ false) × Stands opening (Lose ∷ past) new
Loses opening past new (Err NodeOn) = (is_up opening past ≡ true) × Stands opening past new
Loses opening past new (Err _) = ⊥

-- How a renewal ends: the client runs, unless it has a note.
abbrev pub Renews : Opening → List FrameEntry → ℕ → ClientNode → Result (Unit {0}) Fault → Type 0
Renews opening past g =
    Starts (client_nodes opening) past (lacks_note opening past true) true BadNote (Renew g Saved)

-- How a cut within the save of a generation ends, likewise.
abbrev pub CutsInRenewal : Opening → List FrameEntry →
    Bool → ℕ → ClientNode → Result (Unit {0}) Fault → Type 0
CutsInRenewal opening past landed g =
    Starts (client_nodes opening) past (lacks_note opening past true) true NoSave
    (Renew g (lost_by landed))

-- The generations that were handed in, the newest first.
abbrev pub handed_in : List FrameEntry → List ℕ
handed_in [] = []
handed_in (Renew g left ∷ past) = g ∷ handed_in past
handed_in (_ ∷ past) = handed_in past
