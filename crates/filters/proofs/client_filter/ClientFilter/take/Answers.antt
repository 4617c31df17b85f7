use Rattle.client_core.specs.FrameEnds.{steps}
use Rattle.client_core.specs.Inputs.{Deliver}
use Rattle.filters.specs.Kept.{note_kept}
use Rattle.filters.specs.ClientSteps.{answer_to}
use Rattle.filters.proofs.FrameLemmas.{not_read}
use Rattle.filters.proofs.client_filter.ClientFilter.take.Goals as goal

pub returns-in-Err-clause-ends : goal.returns-in-Err-clause-ends
returns-in-Err-clause-ends c o past stands =
    not_read (steps note_kept o) (answer_to o past) past Deliver c.args.bytes.now c.in-Err.fault c.args.self.now.client c.in-Err.ensures.answer stands
