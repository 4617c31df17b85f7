use Rattle.std.specs.Prelude.{OnOk, Result, Ok, Err}
use Rattle.net_world.specs.Setup.{setup_of}
use Rattle.seen.proofs.watching.watch.Goals as goal

-- What holds anyway holds where the result is a world.
on_ok : {A B : Type 0} (r : Result A B) (P : Type 0) → P → OnOk r P
on_ok (Ok x) P p = p
on_ok (Err e) P p = tt

pub returns-clause-one_state : goal.returns-clause-one_state
returns-clause-one_state c =
    on_ok c.play.result _ (λ newer older split. c.one_state.ensures (setup_of c.args.config) older c.requires.few)

pub returns-clause-taken : goal.returns-clause-taken
returns-clause-taken c =
    on_ok c.play.result _ (λ newer older split. c.each_is_taken.ensures (setup_of c.args.config) older c.requires.few)

pub returns-clause-exact : goal.returns-clause-exact
returns-clause-exact c =
    on_ok c.play.result _ (λ newer older split. c.each_report_is_exact.ensures (setup_of c.args.config) older c.requires.few)

pub returns-clause-told : goal.returns-clause-told
returns-clause-told c =
    on_ok c.play.result _ (λ newer older split. c.each_report_was_told.ensures (setup_of c.args.config) older c.requires.few)

pub returns-clause-none_saved : goal.returns-clause-none_saved
returns-clause-none_saved c =
    on_ok c.play.result _ (λ newer older split. c.no_saved_is_of_none.ensures (setup_of c.args.config) older c.requires.few)

pub returns-clause-cuts : goal.returns-clause-cuts
returns-clause-cuts c =
    on_ok c.play.result _ (λ newer older split. c.cuts_are_behind_acks.ensures (setup_of c.args.config) older c.requires.few)

pub returns-clause-acks : goal.returns-clause-acks
returns-clause-acks c =
    on_ok c.play.result _ (λ newer older split. c.acks_are_of_kept.ensures (setup_of c.args.config) older c.requires.few)

pub returns-clause-refusals : goal.returns-clause-refusals
returns-clause-refusals c =
    on_ok c.play.result _ (λ newer older split. c.refusals_change_nothing.ensures (setup_of c.args.config) older c.requires.few)

pub returns-clause-kept : goal.returns-clause-kept
returns-clause-kept c =
    on_ok c.play.result _ (λ newer older split. c.what_comes_is_kept.ensures (setup_of c.args.config) older c.requires.few)

pub returns-clause-ended : goal.returns-clause-ended
returns-clause-ended c =
    on_ok c.play.result _ (λ newer older split. c.ended_is_kept.ensures (setup_of c.args.config) older c.requires.few)

pub returns-clause-numbers : goal.returns-clause-numbers
returns-clause-numbers c =
    on_ok c.play.result _ (λ newer older split. c.numbers_are_given_once.ensures (setup_of c.args.config) older c.requires.few)

pub returns-clause-unknown : goal.returns-clause-unknown
returns-clause-unknown c =
    on_ok c.play.result _ (λ newer older split. c.unknown_is_refused.ensures (setup_of c.args.config) older c.requires.few)
