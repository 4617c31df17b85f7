use Rattle.std.proofs.Common.{ap, ◌∙◌}
use Rattle.disk_model.specs.Notes.{Note}
use Rattle.server_core.proofs.RestartLemmas.{restarted}
use Rattle.server_core.proofs.packet_server.PacketServer.restart.Goals as goal

pub returns-in-Ok-save : goal.returns-in-Ok-save
returns-in-Ok-save g c =
    let note = g.N.Notes.note in
    let saved = c.in-Ok-save.ensures ∙ ap (λ (n : Note). record n { bytes = c.encode-bytes.result }) c.in-Ok.ensures.0
    ∙ ap (λ bytes. record (note c.args.notes) { bytes = bytes }) c.encode-bytes.ensures in
    let leaves = ap (λ d. note d.notes) c.new.ensures ∙ saved in
    record {
      said = c.in-Ok.noted;
      says = c.in-Ok.ensures.1;
      leaves = leaves;
      stands = λ o past me says.
          restarted note c.new.result c.new-in-Ok-save.result
          (note c.args.notes).bytes o past c.args.me c.in-Ok.noted (ap (λ d. d.down) c.new.ensures) c.one_note.ensures me c.in-Ok.ensures.1 c.in-Ok.ensures.2 says
          (ap (λ (n : Note). n.bytes) leaves) c.new-in-Ok-save.ensures;
    }
