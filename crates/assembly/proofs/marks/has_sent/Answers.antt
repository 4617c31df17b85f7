use Rattle.assembly.proofs.SentLemmas.{same_more}
use Rattle.assembly.proofs.marks.has_sent.Goals as goal

pub loop-bytes-preserved : goal.loop-bytes-preserved
loop-bytes-preserved c =
    same_more c.args.hub.now.net.frames c.args.before c.args.sent.now c.loop-bytes.i c.in-Some.bytes.now c.loop-bytes.invariant c.in-Some.ensures
    (c.is_frame.ensures.0 c.if-not-is_frame.false)
