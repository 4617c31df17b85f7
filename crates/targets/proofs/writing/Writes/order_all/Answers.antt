use Rattle.std.proofs.Common.{arith, ap, refl, sym, ◌∙◌}
use Rattle.engine.specs.declared.issue.Ticket.{Ticket}
use Rattle.engine.specs.Running.{Origin}
use Rattle.targets.proofs.OrderLemmas.{none_yet, one_more, write_is, left_by_write, not_write, same_by_answer, all_ordered}
use Rattle.targets.specs.Writing.{steps_left}
use Rattle.targets.proofs.writing.Writes.order_all.Goals as goal

pub loop-ticket-init : goal.loop-ticket-init
loop-ticket-init g c = record {
  orders = λ h stands. none_yet c.args.head.now h c.args.self.now.engine _ stands;
  left = omega arith;
  origin = refl;
}

pub loop-ticket-preserved : goal.loop-ticket-preserved
loop-ticket-preserved g c =
    let running = c.loop-ticket.self.engine in
    let written =
    write_is running.origin running.stopped running.failed running.kept.issued running.kept.in_flight c.in-Write.ticket c.in-Write.ensures.answer in
    record {
      orders = λ h stands. one_more c.args.head.now c.args.self.now.engine.origin h running c.issue.new.self _ _ _ c.in-Write.ticket.seq c.in-Write.ticket.key
          c.loop-ticket.self.rec (c.loop-ticket.invariant.orders h stands)
          c.in-Write.ensures.added c.in_ok-put_order_behind.ensures
          (ap (λ (t : Ticket). t.key) written.0 ∙ ap (λ (o : Origin). o.key) c.loop-ticket.invariant.origin)
          (sym c.loop-ticket.self.of_job ∙ ap (λ (o : Origin). o.job) c.loop-ticket.invariant.origin);
      left = omega (arith, left_by_write running c.issue.new.self c.in-Write.ticket c.in-Write.ensures.left written.1, c.loop-ticket.invariant.left);
      origin = ap (λ r. r.origin) c.in-Write.ensures.left ∙ c.loop-ticket.invariant.origin;
    }

pub returns : goal.returns
returns g c =
    let running = c.loop-ticket.self.engine in
    let none = not_write c.issue.result c.in_default.not-Write in
    let unchanged = c.issue.ensures.left ∙ same_by_answer running c.issue.result none in
    record {
      orders = λ h stands. all_ordered c.args.head.now c.args.self.now.engine.origin h running c.issue.new.self _ _ c.issue.result (c.loop-ticket.invariant.orders h stands)
          c.loop-ticket.invariant.origin c.loop-ticket.self.goes_on c.issue.ensures.history c.issue.ensures.left none;
      origin = ap (λ r. r.origin) unchanged ∙ c.loop-ticket.invariant.origin;
      left = omega (arith, ap steps_left unchanged, c.loop-ticket.invariant.left);
    }
