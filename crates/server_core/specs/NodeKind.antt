-- What kind of node a server is.
use Rattle.disk_model.specs.Notes.{Note}
use Rattle.server_core.specs.Inputs.{FrameInput}
use Rattle.server_core.specs.declared.outs.Outs.{Outs}
use Rattle.server_core.specs.declared.server.Server.{Server}
use Rattle.server_core.specs.History.{Opening}
use Rattle.server_core.specs.Note.{Says}
use Rattle.server_core.specs.Words.{Staged, words_noted}
use Rattle.server_core.specs.Hearing.{FrameEntry, Cut, packets_heard}
use Rattle.server_core.specs.FrameEnds.{steps}
use Rattle.node.specs.Kinds.{Kind}

-- The kind of a server that was opened so.
abbrev pub server_kind : {T : Type 0} → (T → Note) → Opening →
    Kind (Server T) T FrameInput FrameEntry Staged Outs
server_kind note opening = record {
  core = steps note opening;
  note = note;
  Says = λ past notes. Says (note notes).bytes (words_noted opening (packets_heard opening past));
  cut = Cut;
}
