use Rattle.std.proofs.Common.{subst}
use Rattle.client_core.specs.Inputs as inputs
use Rattle.net_world.specs.Asking.{ClientEnds}
use Rattle.net_world.specs.Happenings as happenings
use Rattle.net_world.specs.World.{world}
use Rattle.net_world.proofs.AskEndsLemmas.{asked_ends, begins, triggers, stops_run, verifies, ticks}
use Rattle.net_world.proofs.world.World.happen.Goals as goal

pub returns-in-Begin : goal.returns-in-Begin
returns-in-Begin c w events stands =
    let past = world w events in
    rw c.in-Begin.is (asked_ends w past (happenings.Begin c.in-Begin.text.items) (inputs.Begin c.in-Begin.text.items) c.ask.result c.ask.new.self
    (begins w past c.in-Begin.text.items) (subst (λ t. ClientEnds w past (inputs.Begin t) c.ask.new.self c.ask.result) c.deref.ensures.value
    (c.ask.ensures w past stands)))

pub returns-in-Trigger : goal.returns-in-Trigger
returns-in-Trigger c w events stands =
    let past = world w events in
    rw c.in-Trigger.is (asked_ends w past (happenings.Trigger c.in-Trigger.run' c.in-Trigger.act)
    (inputs.Trigger c.in-Trigger.run' c.in-Trigger.act) c.ask-in-Trigger.result c.ask-in-Trigger.new.self
    (triggers w past c.in-Trigger.run' c.in-Trigger.act) (c.ask-in-Trigger.ensures w past stands))

pub returns-in-StopRun : goal.returns-in-StopRun
returns-in-StopRun c w events stands =
    let past = world w events in
    rw c.in-StopRun.is (asked_ends w past (happenings.StopRun c.in-StopRun.run')
    (inputs.Stop c.in-StopRun.run') c.ask-in-StopRun.result c.ask-in-StopRun.new.self (stops_run w past c.in-StopRun.run')
    (c.ask-in-StopRun.ensures w past stands))

pub returns-in-Verify : goal.returns-in-Verify
returns-in-Verify c w events stands =
    let past = world w events in
    rw c.in-Verify.is (asked_ends w past (happenings.Verify c.in-Verify.run' c.in-Verify.text.items)
    (inputs.Verify c.in-Verify.run' c.in-Verify.text.items) c.ask-in-Verify.result c.ask-in-Verify.new.self
    (verifies w past c.in-Verify.run' c.in-Verify.text.items)
    (subst (λ t. ClientEnds w past (inputs.Verify c.in-Verify.run' t) c.ask-in-Verify.new.self c.ask-in-Verify.result) c.deref-in-Verify.ensures.value
    (c.ask-in-Verify.ensures w past stands)))

pub returns-in-Tick : goal.returns-in-Tick
returns-in-Tick c w events stands =
    let past = world w events in
    rw c.in-Tick.is (asked_ends w past (happenings.Tick) (inputs.Tick) c.ask-in-Tick.result c.ask-in-Tick.new.self (ticks w past)
    (c.ask-in-Tick.ensures w past stands))
