use Rattle.std.proofs.Common.{subst, take, reverse}
use Rattle.std.specs.Prelude.{map}
use Rattle.net_world.specs.Events.{happening}
use Rattle.net_world.specs.Changes.{steps, trace}
use Rattle.net_world.specs.Setup.{setup_of}
use Rattle.net_world.specs.World.{world}
use Rattle.net_world.specs.Stands.{StandsFor}
use Rattle.net_world.proofs.PlayLemmas.{next_is_newest}
use Rattle.net_world.proofs.WorldFitLemmas.{world_fits}
use Rattle.net_world.proofs.playing.play.Goals as goal

pub loop-event-preserved : goal.loop-event-preserved
loop-event-preserved c =
    let w = setup_of c.args.config in
    subst (λ hs. StandsFor w (world w hs) c.pass.new.self)
    (next_is_newest c.args.events.now c.loop-event.event-index c.event-item.result c.loop-event-test.true c.event-item.is)
    (c.in_ok-pass.ensures.passed w (map happening (reverse (take c.loop-event.event-index c.args.events.now))) c.loop-event.invariant)

pub returns-clause-one_taking : goal.returns-clause-one_taking
returns-clause-one_taking c newer older split =
    let w = setup_of c.args.config in
    c.one_state_of_each_job.ensures.once w (trace w (world w older))

pub returns-clause-one_state : goal.returns-clause-one_state
returns-clause-one_state c newer older split =
    let w = setup_of c.args.config in
    c.one_state_of_each_job.ensures.held w (trace w (world w older))
    (c.each_world_is_a_trace.ensures.packets w older c.requires.few)

pub returns-clause-pieces : goal.returns-clause-pieces
returns-clause-pieces c newer older split =
    let w = setup_of c.args.config in
    c.frames_hold_the_taken.ensures.together w (steps (world w older)) (c.each_world_is_a_trace.ensures.frames w older)
    (world_fits (record { fit = c.reports_fit.ensures; sets = c.legal_histories.ensures.checks }) w older c.requires.few)

pub returns-clause-counts : goal.returns-clause-counts
returns-clause-counts c newer older split =
    let w = setup_of c.args.config in
    c.one_state_of_each_job.ensures.counted w (trace w (world w older))
    (c.each_world_is_a_trace.ensures.packets w older c.requires.few)

pub returns-clause-quiet : goal.returns-clause-quiet
returns-clause-quiet c newer older split =
    let w = setup_of c.args.config in
    c.one_state_of_each_job.ensures.quiet w (trace w (world w older))
    (c.each_world_is_a_trace.ensures.packets w older c.requires.few)

pub returns-clause-exact : goal.returns-clause-exact
returns-clause-exact c newer older split =
    c.checks_are_exact.ensures (setup_of c.args.config) older c.requires.few

pub returns-clause-reports : goal.returns-clause-reports
returns-clause-reports c newer older split =
    let w = setup_of c.args.config in
    c.shown_reports_were_made.ensures.held w (trace w (world w older))
    (c.each_world_is_a_trace.ensures.packets w older c.requires.few)

pub returns-clause-few_faults : goal.returns-clause-few_faults
returns-clause-few_faults c newer older split =
    c.honest_disks.ensures.few (setup_of c.args.config) older c.requires.few

pub returns-clause-no_faults : goal.returns-clause-no_faults
returns-clause-no_faults c newer older split =
    c.honest_disks.ensures.none (setup_of c.args.config) older c.requires.few

pub returns-clause-conflict : goal.returns-clause-conflict
returns-clause-conflict c newer older split =
    c.none_is_a_conflict.ensures (setup_of c.args.config) older c.requires.few

pub returns-clause-equal : goal.returns-clause-equal
returns-clause-equal c newer older split =
    let w = setup_of c.args.config in
    c.nothing_differs.ensures.packets w (trace w (world w older))

pub returns-clause-served : goal.returns-clause-served
returns-clause-served c newer older split =
    let w = setup_of c.args.config in
    c.ends_are_kept.ensures.served w (trace w (world w older))
    (c.each_world_is_a_trace.ensures.packets w older c.requires.few)

pub returns-clause-cut : goal.returns-clause-cut
returns-clause-cut c newer older split =
    let w = setup_of c.args.config in
    c.ends_are_kept.ensures.cut w (trace w (world w older))
    (c.each_world_is_a_trace.ensures.packets w older c.requires.few)

pub returns-clause-runs : goal.returns-clause-runs
returns-clause-runs c newer older split =
    let w = setup_of c.args.config in
    c.numbers_are_given_once.ensures.runs w (trace w (world w older))
    (c.each_world_is_a_trace.ensures.packets w older c.requires.few)

pub returns-clause-attempts : goal.returns-clause-attempts
returns-clause-attempts c newer older split =
    let w = setup_of c.args.config in
    c.numbers_are_given_once.ensures.attempts w (trace w (world w older))
    (c.each_world_is_a_trace.ensures.packets w older c.requires.few)

pub returns-clause-starts : goal.returns-clause-starts
returns-clause-starts c newer older split =
    let w = setup_of c.args.config in
    c.numbers_are_given_once.ensures.starts w (trace w (world w older))

pub returns-clause-run_texts : goal.returns-clause-run_texts
returns-clause-run_texts c newer older split =
    let w = setup_of c.args.config in
    c.one_text_of_each.ensures.runs w (trace w (world w older))
    (c.each_world_is_a_trace.ensures.packets w older c.requires.few)

pub returns-clause-attempt_texts : goal.returns-clause-attempt_texts
returns-clause-attempt_texts c newer older split =
    let w = setup_of c.args.config in
    c.one_text_of_each.ensures.attempts w (trace w (world w older))
    (c.each_world_is_a_trace.ensures.packets w older c.requires.few)
