use Rattle.std.proofs.Common.{◌≡◌, ◌-◌, ◌∙◌, arith, refl, true, sym, leb}
use Rattle.std.proofs.lemmas.Bool.{le-leb}
use Rattle.fc_base.specs.Marks.{floor_of, ends_by}
use Rattle.fc_base.specs.CountLaws.{few_counted}
use Rattle.verify_state.specs.State.{has_come_by}
use Rattle.verify_state.proofs.counting.has_come_by.Goals as goal

pub overflow_sub-result : goal.overflow_sub-result
overflow_sub-result c = omega (arith, c.completed.ensures, few_counted c.window-window.result c.args.issued c.args.marks.now)

pub returns : goal.returns
unfolding has_come_by
returns c =
    let total : leb c.args.issued c.args.rec.now.total ≡ true = le-leb _ _ (omega (arith, c.if-issued-total.false, c.total.ensures.value)) in
    let ends : ends_by (c.args.issued - floor_of c.args.rec.now.window c.args.issued) c.args.marks.now ≡ true =
    rw (← c.window-window.ensures.value, ← c.floor_of-floor.ensures.value) (sym c.ends_by.ensures ∙ c.if-not-ends_by.false) in
    rw (total, ends, c.completed.ensures, c.window-window.ensures.value, c.from.ensures, c.depth.ensures.value) refl
