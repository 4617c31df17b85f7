use Rattle.std.proofs.Common.{rules, take}
use Rattle.std.proofs.KnownBytes.{Appends-kept}
use Rattle.filters.proofs.OutputLemmas.{some_more, cut_put, rest_all}
use Rattle.filters.proofs.output.write_all.Goals as goal
use Rattle.filters.proofs.output.write_all.Goals.{in-Ok, in-Err+else-ne}

pub returns-in-Ok-eq0-clause-err : goal.returns-in-Ok-eq0-clause-err
returns-in-Ok-eq0-clause-err g c =
    cut_put _ _ c.args.bytes.now _
    (some_more _ _ _ c.args.bytes.now _ c.loop.done _ c.loop.invariant.written (rest_all c.args.bytes.now c.loop.done) c.in-Ok-eq0.ensures.bytes)

pub returns-then-ne-clause-err : goal.returns-then-ne-clause-err
returns-then-ne-clause-err g c =
    cut_put _ _ c.args.bytes.now c.loop.done (Appends-kept _ _ _ (take c.loop.done c.args.bytes.now) c.loop.invariant.written c.in-Err.ensures.bytes)

pub loop-preserved : goal.loop-preserved
loop-preserved g c =
    elim c.match-write.branch [
      | in-Ok w ↦ record {
        within = search rules;
        written = rw (w.done-is) (some_more _ _ _ c.args.bytes.now _ c.loop.done _ c.loop.invariant.written (rest_all c.args.bytes.now c.loop.done) w.in-Ok.ensures.bytes);
      }
      | in-Err+else-ne w ↦ record {
        within = search rules;
        written = rw (w.done-is) (Appends-kept _ _ _ (take c.loop.done c.args.bytes.now) c.loop.invariant.written w.in-Err.ensures.bytes);
      }
    ]

pub returns-clause-err : goal.returns-clause-err
returns-clause-err g c = cut_put _ _ c.args.bytes.now c.loop.done c.loop.invariant.written
