use Rattle.std.proofs.Common.{Some, sym, subst}
use Rattle.filters.specs.Kept.{note_kept}
use Rattle.filters.specs.MirrorLives.{IsAt, TakesKind}
use Rattle.filters.specs.Steps.{AnswersBy}
use Rattle.filters.proofs.mirror_filter.MirrorFilter.answer_kind.Goals as goal

pub returns-in-Frame : goal.returns-in-Frame
returns-in-Frame g c =
    let old = IsAt note_kept c.args.self.now.mirror in
    let new = IsAt note_kept c.answer_frame.new.self.mirror in
    let first = g.W.Output.written c.args.writer.now in
    let text = g.W.Output.written c.answer_frame.new.writer in
    subst (λ k. AnswersBy (λ o at now answer. TakesKind o at (Some k) c.args.body.now now answer) old new first text) (sym c.in-Frame.is)
    c.answer_frame.ensures
