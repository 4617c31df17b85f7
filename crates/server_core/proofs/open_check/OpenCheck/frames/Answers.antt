use Rattle.std.proofs.Common.{ap, length}
use Rattle.std.proofs.lemmas.Option.{slice_get_read}
use Rattle.server_core.specs.KeptCheck.{CheckKept, progress_of}
use Rattle.server_core.proofs.CheckFrameLemmas.{here, frames_more}
use Rattle.server_core.proofs.open_check.OpenCheck.frames.Goals as goal

pub loop-index-preserved : goal.loop-index-preserved
loop-index-preserved c check is =
    let items = c.self.inside.progress.items in
    let at = slice_get_read items (length c.as_slice.result.now) c.loop-index.index c.index.result.now
    (ap length c.as_slice.ensures.value) c.loop-index-test.true c.index.ensures in
    let h = here c.args.self.now check c.loop-index.index items c.index.result.now is (ap (λ (k : CheckKept). k.progress) c.self.view_is) at in
    frames_more c.args.me check c.loop-index.index (progress_of c.index.result.now) c.loop-index.frames c.say_if.new.frames _ h
    (c.loop-index.invariant check is) c.in_ok-say_if.ensures (c.body_of-body.ensures.value check is)
