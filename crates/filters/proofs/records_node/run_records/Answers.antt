use Rattle.std.proofs.Common.{arith, subst}
use Rattle.std.specs.Io.Buffered.{reader_remaining}
use Rattle.filters.specs.Steps.{StepsBy}
use Rattle.filters.proofs.RunLemmas.{begun, goes_on, spent, step_ends}
use Rattle.filters.proofs.records_node.run_records.Goals as goal

pub loop-init : goal.loop-init
loop-init g c begin =
    begun (g.N.RecordsNode.filter begin).Takes (g.N.RecordsNode.StandsAt c.args.node.now) (reader_remaining g.R.Read.remaining c.args.reader.now)
    (g.W.Output.written c.args.writer.now)

pub returns-in-Some : goal.returns-in-Some
returns-in-Some g c begin =
    let makes = (g.N.RecordsNode.filter begin).Takes in
    let begins = g.N.RecordsNode.StandsAt c.args.node.now in
    let now = g.N.RecordsNode.StandsAt c.loop.node in
    let next = g.N.RecordsNode.StandsAt c.step.new.node in
    let input = reader_remaining g.R.Read.remaining c.loop.reader in
    let new_input = reader_remaining g.R.Read.remaining c.step.new.reader in
    let text = g.W.Output.written c.loop.writer in
    let new_text = g.W.Output.written c.step.new.writer in
    step_ends makes begins now next (reader_remaining g.R.Read.remaining c.args.reader.now) input new_input (g.W.Output.written c.args.writer.now) text new_text
    c.loop.counter c.in-Some.status (c.loop.invariant begin)
    (subst (StepsBy makes now next input new_input text new_text) c.in-Some.is (c.step.ensures begin))

pub loop-preserved : goal.loop-preserved
loop-preserved g c begin =
    let makes = (g.N.RecordsNode.filter begin).Takes in
    let begins = g.N.RecordsNode.StandsAt c.args.node.now in
    let now = g.N.RecordsNode.StandsAt c.loop.node in
    let next = g.N.RecordsNode.StandsAt c.step.new.node in
    let input = reader_remaining g.R.Read.remaining c.loop.reader in
    let new_input = reader_remaining g.R.Read.remaining c.step.new.reader in
    let text = g.W.Output.written c.loop.writer in
    let new_text = g.W.Output.written c.step.new.writer in
    goes_on makes begins now next (reader_remaining g.R.Read.remaining c.args.reader.now) input new_input (g.W.Output.written c.args.writer.now) text new_text
    c.loop.counter (c.loop.invariant begin)
    (subst (StepsBy makes now next input new_input text new_text) c.in_default.is (c.step.ensures begin))

pub returns : goal.returns
returns g c begin =
    spent (g.N.RecordsNode.filter begin).Takes (g.N.RecordsNode.StandsAt c.args.node.now) (g.N.RecordsNode.StandsAt c.loop.node)
    (reader_remaining g.R.Read.remaining c.args.reader.now) (reader_remaining g.R.Read.remaining c.loop.reader) (g.W.Output.written c.args.writer.now)
    (g.W.Output.written c.loop.writer) (g.W.Output.written c.refuse.new.writer)
    c.loop.counter c.refuse.result (omega (arith, c.loop-test.false, c.loop.auto.counter-end)) (c.loop.invariant begin) c.refuse.ensures.status c.refuse.ensures.written
