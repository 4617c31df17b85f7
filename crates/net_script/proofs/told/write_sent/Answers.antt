use Rattle.std.proofs.Common.{ap, subst, arith}
use Rattle.std.specs.List.{flat_map}
use Rattle.std.specs.Io.KnownBytes.{Appends}
use Rattle.std.proofs.KnownBytes.{Appends-trans}
use Rattle.std.proofs.lemmas.List.{take_all}
use Rattle.net_world.specs.Sending.{sent_in}
use Rattle.program_io.specs.Words.{with_line_feed}
use Rattle.net_script.specs.Printed.{sent_lines}
use Rattle.net_script.proofs.LinesLemmas.{sent_more}
use Rattle.net_script.proofs.told.write_sent.Goals as goal

pub loop-offset-preserved : goal.loop-offset-preserved
loop-offset-preserved g c sent are =
    let line = c.in-Some.line in
    let found = c.in-Some.ensures in
    subst (Appends _ _)
    (sent_more sent c.args.first c.args.count c.loop-offset.offset
    (sent_in c.args.frames.now) are c.loop-offset-test.true found.0 found.1 line.number line.len line.look found.2 found.3 found.4)
    (Appends-trans _ _ _ _ _ (c.loop-offset.invariant sent are) c.in_ok-writeln.ensures.bytes)

pub returns : goal.returns
returns g c sent are =
    subst (Appends (g.W.Write.contents c.args.writer.now) (g.W.Write.contents c.loop-offset.writer))
    (ap (λ l. flat_map with_line_feed (sent_lines c.args.first l)) (take_all c.loop-offset.offset sent (omega (arith, are.number, c.loop-offset-test.false))))
    (c.loop-offset.invariant sent are)
