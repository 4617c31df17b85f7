use Rattle.std.proofs.Common.{◌≡◌, ◌∙◌, arith, sym, false, true, length, refl, eqb}
use Rattle.std.proofs.lemmas.Bool.{le-leb, lt-leb}
use Rattle.fc_base.specs.Counted.{counted, uncounted}
use Rattle.fc_base.specs.CountLaws.{counted_and_uncounted}
use Rattle.verify_state.proofs.CountLemmas.{comes}
use Rattle.verify_state.proofs.counting.has_come.Goals as goal

pub overflow_sub-issued : goal.overflow_sub-issued
overflow_sub-issued c = omega (arith, counted_and_uncounted c.window-window.result c.args.issued c.args.list.now, c.listed-completed.ensures)

pub returns-then-issued-completed : goal.returns-then-issued-completed
returns-then-issued-completed c =
    let job = c.args.rec.now in
    let list = c.args.list.now in
    let issued = c.args.issued in
    let counts : c.listed-completed.result ≡ length (counted job.window issued list) = rw (← c.window-window.ensures.value) c.listed-completed.ensures in
    let few = le-leb (length (uncounted job.window issued list)) job.depth
    (omega (arith, counted_and_uncounted job.window issued list, counts, c.if-issued-completed.true, c.from.ensures, c.depth.ensures.value)) in
    sym (comes job issued list (omega (arith, c.if-issued-total.false, c.total.ensures.value))
    (sym c.is_distinct.ensures ∙ c.if-not-is_distinct.false) (sym c.all_below.ensures ∙ c.if-not-all_below.false)
    true (eqb (length list) c.min.result) few
    (rw (c.min.ensures, c.from-then-issued-completed.ensures, c.window-window.ensures.value, counts) refl))

pub returns-else-issued-completed : goal.returns-else-issued-completed
returns-else-issued-completed c =
    let job = c.args.rec.now in
    let list = c.args.list.now in
    let issued = c.args.issued in
    let counts : c.listed-completed.result ≡ length (counted job.window issued list) = rw (← c.window-window.ensures.value) c.listed-completed.ensures in
    let many = lt-leb (length (uncounted job.window issued list)) job.depth
    (omega (arith, counted_and_uncounted job.window issued list, counts, c.if-issued-completed.false, c.from.ensures, c.depth.ensures.value)) in
    lt-leb _ _ c.if-issued-completed.false
    ∙ sym (comes job issued list (omega (arith, c.if-issued-total.false, c.total.ensures.value))
    (sym c.is_distinct.ensures ∙ c.if-not-is_distinct.false) (sym c.all_below.ensures ∙ c.if-not-all_below.false)
    false _ many refl)
