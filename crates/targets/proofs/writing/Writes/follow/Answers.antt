use Rattle.std.proofs.Common.{refl, ◌∙◌}
use Rattle.engine.specs.History.{done, fail}
use Rattle.targets.specs.declared.notice.Notice.TheVariants.{Done, Failed}
use Rattle.targets.proofs.OrderLemmas.{followed}
use Rattle.targets.proofs.writing.Writes.follow.Goals as goal
use Rattle.targets.proofs.writing.Writes.follow.Goals.{in-Done, in-Failed}

pub returns-clause-step : goal.returns-clause-step
returns-clause-step g c h stands =
    elim c.match-notice.branch [
      | in-Done w ↦
          rw (w.in-Done.is)
          (followed c.args.head.now c.args.self.now.engine c.match-notice.self.engine c.order_all.new.self.engine h (done w.in-Done.seq) w.in-Done.seq
          (Done w.in-Done.seq) c.match-notice.is_open _ _ c.if-not-is_open.false
          (rw (w.self-is, w.is_open-is) (w.done-is_open.ensures.ends h stands)) (rw (w.self-is) w.done-is_open.ensures.origin)
          c.in_ok-order_all.ensures.origin c.in_ok-order_all.ensures.orders (λ later issued. issued) refl)
      | in-Failed w ↦
          rw (w.in-Failed.is)
          (followed c.args.head.now c.args.self.now.engine c.match-notice.self.engine c.order_all.new.self.engine h (fail w.in-Failed.seq) w.in-Failed.seq
          (Failed w.in-Failed.seq) c.match-notice.is_open _ _ c.if-not-is_open.false
          (rw (w.self-is, w.is_open-is) (w.failed-is_open.ensures.ends h stands)) (rw (w.self-is) w.failed-is_open.ensures.origin)
          c.in_ok-order_all.ensures.origin c.in_ok-order_all.ensures.orders (λ later issued. issued) refl)
    ]

pub returns-clause-origin : goal.returns-clause-origin
returns-clause-origin g c =
    elim c.match-notice.branch [
      | in-Done w ↦ c.order_all.ensures.origin ∙ (rw (w.self-is) w.done-is_open.ensures.origin)
      | in-Failed w ↦ c.order_all.ensures.origin ∙ (rw (w.self-is) w.failed-is_open.ensures.origin)
    ]
