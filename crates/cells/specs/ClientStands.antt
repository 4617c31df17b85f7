-- How often the note of a client that may have no power has failed, and what its steps say.
use Rattle.std.specs.Prelude.{ℕ, List, Result, Ok, Err}
use Rattle.fc_base.specs.declared.fault.Fault.{Fault}
use Rattle.disk_model.specs.Notes.{Note}
use Rattle.client_core.specs.declared.client.Client.{Client}
use Rattle.client_core.specs.FrameEnds.{note_in}
use Rattle.messages.specs.declared.refusal.Act.TheVariants as acts
use Rattle.cells.specs.declared.answer.Reply.{Reply}
use Rattle.node.specs.declared.power.Power.{Power}
use Rattle.cells.specs.ClientRules.{answer_of}
use Rattle.node.specs.Kinds.{note_by}
use Rattle.client_core.specs.declared.outs.Outs.{Outs}

-- How often the device of its note has failed.
abbrev pub failures_of : {T : Type 0} → (T → Note) → Power (Client T) T → ℕ
failures_of note power = (note_by (λ client. note_in note client) note power).failures

-- What a step says to its caller, and the frames that it sends. A client asks nothing of its
-- caller.
abbrev pub reply_and_frames : Result Outs Fault → Result (Reply × List (List ℕ)) Fault
reply_and_frames (Ok outs) = Ok (record { answer = answer_of outs.answer; act = acts.None }, outs.frames)
reply_and_frames (Err fault) = Err fault
