use Rattle.std.proofs.Common.{sym, ◌∙◌, ap, subst, List, ℕ}
use Rattle.node.specs.declared.durable.Durable.{Durable}
use Rattle.disk_model.specs.Notes.{Note}
use Rattle.mirror_core.specs.Note.{Says, Reads}
use Rattle.mirror_core.specs.Words.{words_noted}
use Rattle.mirror_core.proofs.mirror.Mirror.restart.Goals as goal

pub returns-in-Ok-Some : goal.returns-in-Ok-Some
returns-in-Ok-Some g c =
    let loaded = c.in-Ok.ensures in
    let old = g.N.Notes.note c.args.notes in
    let says = subst (λ (l : List ℕ). Says l c.in-Ok-Some.noted) (c.deref.ensures.value ∙ loaded.1)
    (subst (Reads c.deref.result.now) c.in-Ok-Some.field-0-is c.in-Ok-Some.ensures.said) in
    let same = ap (λ (d : Durable _). g.N.Notes.note d.notes) c.new.ensures ∙ loaded.0 in
    record {
      same = same;
      said = c.in-Ok-Some.noted;
      says = says;
      stands = λ o past said. record {
        on = ap (λ (d : Durable _). d.down) c.new.ensures;
        durable = subst (λ (n : Note). Says n.bytes (words_noted o past)) (sym same) said;
        knows = c.one_note.ensures old.bytes c.in-Ok-Some.noted (words_noted o past) says said;
      };
    }
