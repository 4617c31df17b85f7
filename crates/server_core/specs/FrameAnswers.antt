-- What a server answers to what comes over a network of frames: as to the packets that it hears.
use Rattle.std.specs.Prelude.{Bool, List, Option, None, is_some}
use Rattle.fc_base.specs.declared.fault.Fault.{Fault}
use Rattle.disk_model.specs.SaveOutcome.{saved_for}
use Rattle.engine.specs.declared.issue.Issue.{Issue as Answer}
use Rattle.messages.specs.declared.refusal.Act.{Act}
use Rattle.messages.specs.declared.refusal.Act.TheVariants as acts
use Rattle.messages.specs.declared.frame.Frame.{Frame}
use Rattle.messages.specs.Hearing.{entry_of, frames_by}
use Rattle.messages.specs.Senses as senses
use Rattle.messages.specs.Senses.{Sense, refusal_of_sense, heard_or}
use Rattle.server_core.specs.Inputs.{PacketInput, FrameInput}
use Rattle.server_core.specs.declared.input.Input.TheVariants.{Deliver}
use Rattle.server_core.specs.History as history
use Rattle.server_core.specs.History.{Opening}
use Rattle.server_core.specs.Words as words
use Rattle.server_core.specs.Words.{Staged}
use Rattle.server_core.specs.Answers as answers
use Rattle.server_core.specs.Hearing.{FrameEntry, Met, rules, arrival, coming_of, heard_at, packets_heard}

-- What comes is to a server that has heard this list.
abbrev pub sense : Opening → List FrameEntry → FrameInput → Sense PacketInput
sense opening past e = senses.sense (rules opening) (heard_at opening past) (arrival e)

-- Why what comes is refused, if it is.
abbrev pub refusal : Opening → List FrameEntry → FrameInput → Option Fault
refusal opening past e =
    refusal_of_sense (rules opening) (packets_heard opening past) (sense opening past e)

-- The run that what comes is due to record: only what is heard is.
abbrev pub due : Opening → List FrameEntry → FrameInput → Option Staged
due opening past e = heard_or None (words.due opening (packets_heard opening past))
    (sense opening past e)

-- The delivery of a frame makes a save where it is due to record a run.
abbrev pub would_save : Opening → List FrameEntry → Frame → Bool
would_save opening past f = is_some (due opening past (Deliver f))

-- What is answered of writes: only what is heard is answered so.
abbrev pub issue : Opening → List FrameEntry → FrameInput → Option Answer
issue opening past e = heard_or None (answers.issue opening (packets_heard opening past))
    (sense opening past e)

-- What the caller is asked to do: only what is heard asks anything.
abbrev pub act : Opening → List FrameEntry → FrameInput → Act
act opening past e = heard_or acts.None (answers.act opening (packets_heard opening past))
    (sense opening past e)

-- What an answered input leaves in the list: a Start that is due was saved.
abbrev pub answered_entry : Opening → List FrameEntry → FrameInput → FrameEntry
answered_entry opening past e = Met e (saved_for (due opening past e))

-- The entry that is heard of what happens.
abbrev pub entry_heard : Opening → List FrameEntry → FrameEntry → Option history.Entry
entry_heard opening past e = entry_of (rules opening) (heard_at opening past) (coming_of e)

-- The frames that a server sends with one more entry of its list.
abbrev pub frames : Opening → List FrameEntry → FrameEntry → List Frame
frames opening past e =
    frames_by (answers.packets opening) (packets_heard opening past) (entry_heard opening past e)
