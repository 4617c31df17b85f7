-- What kind of node the client is.
use Rattle.disk_model.specs.Notes.{Note}
use Rattle.client_core.specs.declared.client.Client.{Client}
use Rattle.client_core.specs.Inputs.{FrameInput}
use Rattle.client_core.specs.History.{Opening}
use Rattle.client_core.specs.Note.{Says}
use Rattle.client_core.specs.Words.{words_noted}
use Rattle.client_core.specs.Saves.{Addition}
use Rattle.client_core.specs.Hearing.{FrameEntry, Cut, packets_heard}
use Rattle.client_core.specs.declared.outs.Outs.{Outs}
use Rattle.client_core.specs.Answers.{node_steps}
use Rattle.node.specs.Kinds.{Kind}

-- The kind of a client that was opened so.
abbrev pub client_kind : {T : Type 0} → (T → Note) → Opening →
    Kind (Client T) T FrameInput FrameEntry Addition Outs
client_kind note opening = record {
  core = node_steps note opening;
  note = note;
  Says = λ past notes. Says (note notes).bytes (words_noted opening (packets_heard opening past));
  cut = Cut;
}
