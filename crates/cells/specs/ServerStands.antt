-- How often the note of a server that may have no power has failed, and what its steps say.
use Rattle.std.specs.Prelude.{ℕ, List, Result, Ok, Err}
use Rattle.fc_base.specs.declared.fault.Fault.{Fault}
use Rattle.disk_model.specs.Notes.{Note}
use Rattle.server_core.specs.declared.outs.Outs.{Outs}
use Rattle.server_core.specs.declared.server.Server.{Server}
use Rattle.server_core.specs.FrameEnds.{note_in}
use Rattle.cells.specs.declared.answer.Reply.{Reply}
use Rattle.node.specs.declared.power.Power.{Power}
use Rattle.node.specs.Kinds.{note_by}
use Rattle.cells.specs.ServerRules.{answer_of}

-- How often the device of its note has failed.
abbrev pub failures_of : {T : Type 0} → (T → Note) → Power (Server T) T → ℕ
failures_of note power = (note_by (λ server. note_in note server) note power).failures

-- What a step says to its caller, and the frames that it sends.
abbrev pub reply_and_frames : Result Outs Fault → Result (Reply × List (List ℕ)) Fault
reply_and_frames (Ok outs) =
    Ok (record { answer = answer_of outs.issue; act = outs.act }, outs.frames)
reply_and_frames (Err fault) = Err fault
