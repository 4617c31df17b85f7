use Rattle.cells.proofs.ClientHearLemmas.{one_more}
use Rattle.cells.proofs.client_cell.tick.bytes_of.Goals as goal

pub loop-i-preserved : goal.loop-i-preserved
loop-i-preserved c = one_more c.args.frames.now c.loop-i.i c.in_ok-frame.frame.now c.loop-i.bytes c.in_ok-bytes.bytes c.in_ok-frame.ensures c.loop-i.invariant
    c.in_ok-bytes.ensures.1
