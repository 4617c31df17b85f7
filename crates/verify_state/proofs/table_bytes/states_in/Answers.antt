use Rattle.std.proofs.Common.{sym, ◌∙◌, ap, arith}
use Rattle.std.specs.Prelude.{is_some}
use Rattle.fc_base.specs.declared.numbers.Key.{Key}
use Rattle.verify_state.specs.StateTable.{kept_of}
use Rattle.verify_state.specs.TableReading.{states_at}
use Rattle.verify_state.proofs.ReadingLemmas.{onward, grown, twice}
use Rattle.verify_state.proofs.table_bytes.states_in.Goals as goal

pub returns-then-has-clause-states : goal.returns-then-has-clause-states
returns-then-has-clause-states c =
    let there = ap (λ (k : Key). is_some (kept_of k c.loop.kept)) (sym c.key.ensures.value) ∙ (sym c.has.ensures ∙ c.if-has.true) in
    λ states. twice (states_at c.args.count c.args.bytes.now) c.loop.kept states c.args.count c.loop.counter c.loop.rest.now _ _
    (omega arith) c.loop.invariant.1 (sym c.in-Some.ensures) there

pub loop-preserved : goal.loop-preserved
loop-preserved c =
    let pushed = c.in_ok-push.ensures.pushed in (
      grown c.push.new.self c.loop.kept _ c.loop.counter pushed c.loop.invariant.0,
      onward (states_at c.args.count c.args.bytes.now) c.loop.kept c.push.new.self c.args.count c.loop.counter c.loop.rest.now _ _
          (omega arith) c.loop.invariant.1 (sym c.in-Some.ensures) pushed,
    )
