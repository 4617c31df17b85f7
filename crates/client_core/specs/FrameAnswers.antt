-- What a client answers to what comes over a network of frames: as to the packets that it hears.
use Rattle.std.specs.Prelude.{Bool, List, Option, None, is_some}
use Rattle.fc_base.specs.declared.fault.Fault.{Fault}
use Rattle.disk_model.specs.SaveOutcome.{saved_for}
use Rattle.messages.specs.declared.frame.Frame.{Frame}
use Rattle.messages.specs.declared.frame.Frame.TheVariants.{Whole, Piece}
use Rattle.messages.specs.Hearing.{entry_of, frames_by}
use Rattle.messages.specs.Senses as senses
use Rattle.messages.specs.Senses.{Sense, refusal_of_sense, heard_or}
use Rattle.client_core.specs.Inputs.{PacketInput, FrameInput, Deliver}
use Rattle.client_core.specs.History as history
use Rattle.client_core.specs.History.{Opening}
use Rattle.client_core.specs.Saves.{Addition}
use Rattle.client_core.specs.Words as words
use Rattle.client_core.specs.Packets.{packets}
use Rattle.client_core.specs.Hearing.{FrameEntry, Met, rules, arrival, coming_of, heard_at, packets_heard}

-- What comes is to a client that has heard this list.
abbrev pub sense : Opening → List FrameEntry → FrameInput → Sense PacketInput
sense opening past e = senses.sense (rules opening) (heard_at opening past) (arrival e)

-- Why what comes is refused, if it is.
abbrev pub refusal : Opening → List FrameEntry → FrameInput → Option Fault
refusal opening past e =
    refusal_of_sense (rules opening) (packets_heard opening past) (sense opening past e)

-- What is due to be added to the note: only what is heard is due to add something.
abbrev pub due : Opening → List FrameEntry → FrameInput → Option Addition
due opening past e = heard_or None (words.due opening (packets_heard opening past))
    (sense opening past e)

-- The delivery of a frame makes a save where it is due to add a state.
abbrev pub would_save : Opening → List FrameEntry → Frame → Bool
would_save opening past f = is_some (due opening past (Deliver f))

-- The frame is a piece.
abbrev pub IsPiece : Frame → Type 0
IsPiece (Whole p) = ⊥
IsPiece (Piece q) = Unit {0}

-- What an answered input leaves in the list: it saved, where it was due to.
abbrev pub answered_entry : Opening → List FrameEntry → FrameInput → FrameEntry
answered_entry opening past e = Met e (saved_for (due opening past e))

-- The entry that is heard of what happens.
abbrev pub entry_heard : Opening → List FrameEntry → FrameEntry → Option history.Entry
entry_heard opening past e = entry_of (rules opening) (heard_at opening past) (coming_of e)

-- The frames that a client sends with one more entry of its list.
abbrev pub frames : Opening → List FrameEntry → FrameEntry → List Frame
frames opening past e =
    frames_by (packets opening) (packets_heard opening past) (entry_heard opening past e)
