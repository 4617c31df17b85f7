use Rattle.std.proofs.Common.{ap, sym, ◌∙◌}
use Rattle.server_core.specs.Kept.{Kept, act_of_end}
use Rattle.server_core.proofs.MarkLemmas.{mark_acts, marked_rows}
use Rattle.server_core.proofs.run.Run.mark.Goals as goal

pub returns-clause-answer : goal.returns-clause-answer
returns-clause-answer c w h =
    let before = marked_rows _ _ _ (c.deref.ensures.value ∙ ap (λ (k : Kept). k.kept) c.self.view_is) c.all_marked-before.ensures in
    let after = marked_rows _ _ _ (c.deref-2.ensures.value ∙ ap (λ (k : Kept). k.kept) c.self-2.view_is) c.all_marked-after.ensures in
    rw (← c.index_of.ensures)
    (c.act_by.ensures ∙ mark_acts c.args.self.now c.set_mark.new.self w c.index_of.result c.in-Some.act _ _ h (c.set_mark.ensures.left w h)
    (ap (λ (k : Kept). act_of_end k.end) (sym c.self.view_is) ∙ sym c.in-Some.ensures) before after)
