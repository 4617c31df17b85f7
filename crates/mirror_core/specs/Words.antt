-- The words of a mirror, each read from the list: whether it is on, what its note says, which
-- frames it refuses, and what they are due to save.
use Rattle.std.specs.Prelude.{ℕ, Bool, false, true, not, ◌&&◌, is_none, is_some, List, [], ◌∷◌, Option, if◌then◌else◌}
use Rattle.fc_base.specs.declared.numbers.Key.{Key}
use Rattle.fc_base.specs.declared.fault.Fault.{Fault}
use Rattle.disk_model.specs.declared.save_outcome.SaveOutcome.{SaveOutcome}
use Rattle.disk_model.specs.SaveOutcome.{has_new, is_lost}
use Rattle.verify_state.specs.State.{State}
use Rattle.messages.specs.declared.frame.Frame.{Frame}
use Rattle.verify_state.specs.StateTable.{kept_of}
use Rattle.mirror_core.specs.declared.note.MirrorNote.{MirrorNote}
use Rattle.mirror_core.specs.History.{Entry, Met, Cut, Restart}
use Rattle.mirror_core.specs.Refusals.{refusal_by}
use Rattle.mirror_core.specs.Saves.{Addition, due_by, noted_after, is_answer}

-- The mirror is on: it was restarted, and since then came no cut and no failed save.
abbrev pub is_on : List Entry → Bool
is_on [] = false
is_on (Met f left ∷ past) = is_on past && not (is_lost left)
is_on (Cut ∷ past) = false
is_on (Restart ∷ past) = true

-- What the note says: what it said at the opening, and what was added by each save that left the
-- new bytes.
abbrev pub words_noted : MirrorNote → List Entry → MirrorNote
words_noted opening [] = opening
words_noted opening (Met f left ∷ past) =
    noted_after (has_new left) (due_by (is_on past) (words_noted opening past) f)
    (words_noted opening past)
words_noted opening (Cut ∷ past) = words_noted opening past
words_noted opening (Restart ∷ past) = words_noted opening past

-- Why a frame is refused.
abbrev pub refusal : MirrorNote → List Entry → Frame → Option Fault
refusal opening past f = refusal_by (is_on past) (words_noted opening past) f

-- What a frame is due to add to the note.
abbrev pub due : MirrorNote → List Entry → Frame → Option Addition
due opening past f = due_by (is_on past) (words_noted opening past) f

-- A frame makes a save where it is due to add something.
abbrev pub would_save : MirrorNote → List Entry → Frame → Bool
would_save opening past f = is_some (due opening past f)

-- The frame is answered: it isn't refused, and its save, where it makes one, answered Ok.
abbrev pub is_answered : MirrorNote → List Entry → Frame → SaveOutcome → Bool
is_answered opening past f left =
    is_none (refusal opening past f) && is_answer (due opening past f) left

-- The generation that the mirror has granted.
abbrev pub generation : MirrorNote → List Entry → ℕ
generation opening past = (words_noted opening past).generation

-- The kept state of a key: that of the opening, else the first that came and was saved.
abbrev pub kept_state : MirrorNote → List Entry → Key → Option State
kept_state opening past key = kept_of key (words_noted opening past).kept

-- What the calls that only look answer from: all that came, but for what came from a failed save
-- on.
abbrev pub shown_entries : List Entry → List Entry
shown_entries [] = []
shown_entries (Met f left ∷ past) =
    if is_on past then (if is_lost left then past else Met f left ∷ past) else shown_entries past
shown_entries (Cut ∷ past) = []
shown_entries (Restart ∷ past) = Restart ∷ past
