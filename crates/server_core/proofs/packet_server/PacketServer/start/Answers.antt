use Rattle.std.proofs.Common.{List, ℕ, true, ap, ◌∙◌}
use Rattle.disk_model.specs.Notes.{Note}
use Rattle.server_core.specs.Request.{ToStart}
use Rattle.server_core.specs.Handles.{sent_alone}
use Rattle.server_core.proofs.Due.{rests}
use Rattle.server_core.proofs.packet_server.PacketServer.start.Goals as goal

-- A note with these bytes.
abbrev note_of : ℕ → List ℕ → Note
note_of failures bytes = record { bytes = bytes; failures = failures }

pub returns : goal.returns
returns g c = (
  c.in_ok-save.ensures.0 ∙ ap (note_of (g.N.Notes.note c.args.self.now.durable.notes).failures) c.encode.ensures,
  ap (λ d. d.down) c.in_ok-save.ensures.1,
  λ words s h d. (
    c.sent.ensures ∙ ap sent_alone (c.in_ok-frames.ensures.sent words h),
    c.begin.ensures words h s (rests true words.last words.staged words.run (ToStart c.args.run) s d).staged_is,
  ),
)
