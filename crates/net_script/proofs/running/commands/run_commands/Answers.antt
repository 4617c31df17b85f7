use Rattle.std.proofs.Common.{◌||◌, ◌∷◌, ◌∙◌, ap, sym, subst}
use Rattle.net_script.specs.Commands.{happens}
use Rattle.net_script.specs.Left.{as_order, orders_left}
use Rattle.net_script.specs.Running.{HasCome}
use Rattle.net_script.proofs.RunLemmas.{RunSoFar, none_run, command_run}
use Rattle.net_script.proofs.running.commands.run_commands.Goals as goal

pub loop-order-init : goal.loop-order-init
loop-order-init g c = (λ setup before stands. none_run setup before _ _ _ stands, c.requires)

pub loop-order-preserved-then-faults : goal.loop-order-preserved-then-faults
loop-order-preserved-then-faults g c = (
  λ setup before stands.
      let s = c.loop-order.invariant.0 setup before stands in
      let more = c.in-Answered.more in
      subst (RunSoFar setup before (orders_left c.args.orders.now) (orders_left c.next.new.self) c.run_command.new.world (g.W.Write.contents c.args.writer.now)
      (g.W.Write.contents c.run_command.new.writer))
      (ap (λ f. f || more) c.if-faults.true ∙ sym c.if-faults.true)
      (command_run setup before _ _ _ _ _ _ _ _ more c.in-Asks.line c.in-Asks.command c.in-Asks.text.now _ s
      (c.in-Some.ensures.orders ∙ ap (λ o. as_order o ∷ orders_left c.next.new.self) c.in-Asks.is)
      (subst (HasCome setup s.behind (happens c.in-Asks.command c.in-Asks.text.now) c.run_command.new.world _ _) c.in-Answered.is
      (c.in_ok-more-in-Asks.ensures setup s.behind s.stands))),
  c.next.ensures.number,
)

pub loop-order-preserved : goal.loop-order-preserved
loop-order-preserved g c = (
  λ setup before stands.
      let s = c.loop-order.invariant.0 setup before stands in
      let more = c.in-Answered.more in
      subst (RunSoFar setup before (orders_left c.args.orders.now) (orders_left c.next.new.self) c.run_command.new.world (g.W.Write.contents c.args.writer.now)
      (g.W.Write.contents c.run_command.new.writer))
      (ap (λ f. f || more) c.if-faults.false)
      (command_run setup before _ _ _ _ _ _ _ _ more c.in-Asks.line c.in-Asks.command c.in-Asks.text.now _ s
      (c.in-Some.ensures.orders ∙ ap (λ o. as_order o ∷ orders_left c.next.new.self) c.in-Asks.is)
      (subst (HasCome setup s.behind (happens c.in-Asks.command c.in-Asks.text.now) c.run_command.new.world _ _) c.in-Answered.is
      (c.in_ok-more-in-Asks.ensures setup s.behind s.stands))),
  c.next.ensures.number,
)
