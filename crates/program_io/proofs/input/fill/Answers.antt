use Rattle.std.proofs.Common.{rules}
use Rattle.program_io.proofs.Filling.{filled_more, taken_before}
use Rattle.program_io.proofs.input.fill.Goals as goal
use Rattle.program_io.proofs.input.fill.Goals.{in-Ok, in-Err+else-ne}

pub loop-preserved : goal.loop-preserved
loop-preserved g c =
    elim c.match-read_behind.branch [
      | in-Ok w ↦ record {
        within = search rules;
        taken = rw (w.filled-is) (filled_more _ _ _ c.loop.buffer c.read_behind.new.buffer c.loop.filled w.in-Ok.count c.read_behind.ensures.front
            c.loop.invariant.taken w.in-Ok.ensures.bytes);
      }
      | in-Err+else-ne w ↦ record {
        within = search rules;
        taken = rw (w.filled-is, c.read_behind.ensures.front) (taken_before _ _ _ _ c.loop.invariant.taken w.in-Err.ensures.err);
      }
    ]
