use Rattle.messages.specs.declared.frame.Frame.{Frame}
use Rattle.mirror_core.specs.Ends.{steps}
use Rattle.filters.specs.Kept.{note_kept}
use Rattle.filters.specs.MirrorLives.{answer_to}
use Rattle.filters.proofs.FrameLemmas.{not_read}
use Rattle.filters.proofs.mirror_filter.MirrorFilter.take.Goals as goal

pub returns-in-Err : goal.returns-in-Err
returns-in-Err c o past stands =
    not_read (steps note_kept o) (answer_to o past) past (λ (f : Frame). f) c.args.bytes.now c.in-Err.fault c.args.self.now.mirror c.in-Err.ensures.answer stands
