use Rattle.std.proofs.Common.{◌≡◌, sym, ◌∙◌, ap, subst, true, false, ◌==◌, length, List, ℕ, [], arith}
use Rattle.node.specs.declared.durable.Durable.{Durable}
use Rattle.disk_model.specs.Notes.{Note}
use Rattle.client_core.specs.Hearing.{packets_heard}
use Rattle.client_core.specs.Note.{Says, new_note, spelling}
use Rattle.client_core.proofs.NotedLemmas.{of_renewed}
use Rattle.client_core.proofs.RenewLemmas.{no_bytes, renewed_noted, renewed_with}
use Rattle.client_core.proofs.client.Client.renew.Goals as goal

pub returns-in-Ok-save : goal.returns-in-Ok-save
returns-in-Ok-save g c =
    let loaded = c.in-Ok.ensures in
    let old = g.N.Notes.note c.args.notes in
    let new = g.N.Notes.note c.save.new.self in
    let with = renewed_with c.args.generation c.in-Some.generation c.in-Some.ensures in
    let none : old.bytes ≡ [] = sym loaded.1 ∙ no_bytes c.in-Ok.bytes.items
    (sym c.if-not-is_lost.false ∙ c.is_lost.ensures ∙ ap (λ (l : List ℕ). length l == 0) c.deref.ensures.value) in
    let is = c.renewed-noted.ensures ∙ ap new_note with.1 in
    let said : c.deref-2.result.now ≡ spelling (new_note c.args.generation) =
    c.deref-2.ensures.value ∙ c.in-Ok-encode.ensures ∙ ap spelling is in
    let kept : g.N.Notes.note c.new.result.durable.notes ≡ new = ap (λ (d : Durable _). g.N.Notes.note d.notes) c.new.ensures.durable in
    let leaves : g.N.Notes.note c.new.result.durable.notes ≡ record old { bytes = spelling (new_note c.args.generation) } =
    kept ∙ c.in-Ok-save.ensures ∙ (λ i. record { bytes = said i; failures = (loaded.0 i).failures }) in
    let bytes : (g.N.Notes.note c.new.result.durable.notes).bytes ≡ spelling (new_note c.args.generation) = ap (λ (n : Note). n.bytes) leaves in
    record {
      free = with.0;
      empty = none;
      leaves = leaves;
      stands = λ o past servers said.
          let after = renewed_noted o (packets_heard o past) old.bytes c.args.generation none with.0 said in
          record {
            core = record {
              on = ap (λ (d : Durable _). d.down) c.new.ensures.durable;
              peers = c.new.ensures.peers ∙ (λ i. record { servers = sym servers i; mirror = true; granted = false });
              few = omega (arith, servers, c.requires.few);
              durable = subst (Says (g.N.Notes.note c.new.result.durable.notes).bytes) (sym after)
                  (subst (λ (l : List ℕ). Says l (new_note c.args.generation)) (sym bytes)
                  (c.notes_are_read_back.ensures (new_note c.args.generation) (of_renewed c.args.generation with.0)));
              knows = c.new.ensures.noted ∙ is ∙ sym after;
              lives = c.new.ensures.life;
            };
            pieces = λ on. c.new-in-Ok-save.ensures;
          };
    }
