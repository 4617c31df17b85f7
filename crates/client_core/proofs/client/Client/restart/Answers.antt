use Rattle.std.proofs.Common.{sym, ◌∙◌, ap, subst, false, ◌==◌, length, List, ℕ, arith}
use Rattle.node.specs.declared.durable.Durable.{Durable}
use Rattle.disk_model.specs.Notes.{Note}
use Rattle.client_core.specs.Hearing.{packets_heard}
use Rattle.client_core.specs.Note.{Says, Reads}
use Rattle.client_core.specs.Words.{words_noted}
use Rattle.client_core.proofs.RenewLemmas.{some_note, no_mirror}
use Rattle.client_core.proofs.client.Client.restart.Goals.{else-mirror-via-then-mirror+else-is_lost, else-mirror-via-else-mirror}
use Rattle.client_core.proofs.client.Client.restart.Goals as goal

pub returns-in-Ok-Some : goal.returns-in-Ok-Some
returns-in-Ok-Some g c =
    let loaded = c.in-Ok.ensures in
    let old = g.N.Notes.note c.args.notes in
    let says = subst (λ (l : List ℕ). Says l c.in-Ok-Some.noted) (c.deref-2.ensures.value ∙ loaded.1)
    (subst (Reads c.deref-2.result.now) c.in-Ok-Some.field-0-is c.in-Ok-Some.ensures.said) in
    let same = ap (λ (d : Durable _). g.N.Notes.note d.notes) c.new.ensures.durable ∙ loaded.0 in
    record {
      same = same;
      some = λ m e. elim c.else-mirror.branch [
        | else-mirror-via-then-mirror+else-is_lost w ↦ some_note old.bytes
            (ap (λ (l : List ℕ). length l == 0) (sym (w.deref.ensures.value ∙ loaded.1)) ∙ sym w.is_lost.ensures ∙ w.if-is_lost.false) e
        | else-mirror-via-else-mirror w ↦ no_mirror c.args.mirror w.if-mirror.false m
      ];
      said = c.in-Ok-Some.noted;
      says = says;
      stands = λ o past servers said. record {
        core = record {
          on = ap (λ (d : Durable _). d.down) c.new.ensures.durable;
          peers = c.new.ensures.peers ∙ (λ i. record { servers = sym servers i; mirror = c.args.mirror; granted = false });
          few = omega (arith, servers, c.requires.few);
          durable = subst (λ (n : Note). Says n.bytes (words_noted o (packets_heard o past))) (sym same) said;
          lives = c.new.ensures.life;
          knows = c.new.ensures.noted ∙ c.one_note.ensures old.bytes c.in-Ok-Some.noted (words_noted o (packets_heard o past)) says said;
        };
        pieces = λ on. c.new-in-Ok-Some.ensures;
      };
    }
