use Rattle.std.proofs.Common.{◌∙◌, refl, sym, ap, arith, Some}
use Rattle.assembly.specs.Order.{next_of}
use Rattle.assembly.proofs.PassLemmas.{passed_none, passed_quiet, passed_by, stopped_at, marked_so, unmarked_so, read_there, long_as}
use Rattle.assembly.proofs.order.Order.pass.Goals as goal

pub loop-at-init : goal.loop-at-init
loop-at-init c =
    rw c.next_of-at.ensures (
      λ h e. passed_none c.histories_rise.ensures c.args.node.now h (next_of c.args.self.now.next
          c.args.node.now) c.args.self.now.places,
      refl,
      omega arith,
    )

pub loop-at-preserved-then-is_quiet : goal.loop-at-preserved-then-is_quiet
loop-at-preserved-then-is_quiet c = (
  λ h e. passed_quiet c.histories_rise.ensures c.args.node.now c.args.history.now.items h
      (next_of c.args.self.now.next c.args.node.now) c.loop-at.at c.is_quiet.result
      c.args.self.now.places c.loop-at.self.places c.add.new.self.places e c.loop-at.invariant.2
      (omega (arith, c.loop-at-test.true, c.requires.within, long_as c.args.history.now.items h e))
      c.is_quiet.ensures c.if-is_quiet.true (c.loop-at.invariant.0 h e) c.in_ok-add.ensures.places,
  c.add.ensures.next ∙ c.loop-at.invariant.1,
  omega (arith, c.loop-at.invariant.2),
)

pub returns-then-is_marked-clause-stopped : goal.returns-then-is_marked-clause-stopped
returns-then-is_marked-clause-stopped c = λ h e. (
  refl,
  stopped_at c.histories_rise.ensures c.args.node.now h (next_of c.args.self.now.next c.args.node.now) c.args.to c.loop-at.at c.as_entry.result.now
      c.args.self.now.places c.loop-at.self.places
      c.loop-at-test.true (omega (arith, c.loop-at-test.true, c.requires.within, long_as c.args.history.now.items h e))
      (read_there c.args.history.now.items h c.loop-at.at c.as_entry.result.now e (c.at-lent.ensures ∙ ap Some (sym c.as_entry.ensures)))
      (marked_so c.as_entry.result.now c.is_marked.result c.is_marked.ensures c.if-is_marked.true c.loop-at.at)
      (c.loop-at.invariant.0 h e),
)

pub loop-at-preserved : goal.loop-at-preserved
loop-at-preserved c = (
  λ h e. passed_by c.histories_rise.ensures c.args.node.now c.args.history.now.items h
      (next_of c.args.self.now.next c.args.node.now) c.loop-at.at c.as_entry.result.now c.is_quiet.result
      c.args.self.now.places c.loop-at.self.places e c.loop-at.invariant.2
      (c.at-lent.ensures ∙ ap Some (sym c.as_entry.ensures))
      c.is_quiet.ensures c.if-is_quiet.false
      (unmarked_so c.as_entry.result.now c.is_marked.result c.is_marked.ensures c.if-is_marked.false c.loop-at.at)
      (c.loop-at.invariant.0 h e),
  c.loop-at.invariant.1,
  omega (arith, c.loop-at.invariant.2),
)
