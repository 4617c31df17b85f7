use Rattle.std.proofs.Common.{refl}
use Rattle.server_core.specs.declared.input.Input.TheVariants.{Deliver}
use Rattle.server_core.specs.FrameEnds.{steps}
use Rattle.filters.specs.Kept.{note_kept}
use Rattle.filters.specs.ServerAt.{answer_to}
use Rattle.filters.proofs.FrameLemmas.{not_read}
use Rattle.filters.proofs.server_filter.ServerFilter.deliver.Goals as goal

pub returns-in-Err : goal.returns-in-Err
returns-in-Err c = record {
  ends = λ o past stands.
      not_read (steps note_kept o) (answer_to o past) past Deliver c.args.bytes.now c.in-Err.fault c.args.self.now.server c.in-Err.ensures.answer stands;
  checks = refl;
}
