use Rattle.std.proofs.Common.{[], inl}
use Rattle.std.specs.Io.KnownBytes.{Keeps}
use Rattle.std.proofs.KnownBytes.{Keeps-refl}
use Rattle.std.proofs.lemmas.Result.{IfOk-weaker}
use Rattle.targets.specs.Writing.{FollowsBy}
use Rattle.targets.proofs.RunLemmas.{flushed}
use Rattle.targets.proofs.writing.Writes.step.Goals as goal
use Rattle.targets.proofs.writing.Writes.step.Goals.{then-buffer-lt-NOTICE+in_ok-flush, else-buffer-lt-NOTICE}

pub returns-in-Ok-clause-step : goal.returns-in-Ok-clause-step
returns-in-Ok-clause-step g c h stands =
    let first = g.W.Write.contents c.args.writer.now in
    let mid = g.W.Write.contents c.if-buffer-lt-NOTICE.writer in
    let kept : Keeps first mid = elim c.if-buffer-lt-NOTICE.branch [
      | then-buffer-lt-NOTICE+in_ok-flush w ↦ rw (w.writer-is) w.in_ok-flush.ensures.bytes
      | else-buffer-lt-NOTICE w ↦ rw (w.writer-is) (Keeps-refl first)
    ] in
    IfOk-weaker c.follow.result (FollowsBy [] c.in-Ok.notice h c.args.self.now.engine c.follow.new.self.engine mid (g.W.Write.contents c.follow.new.writer)) _
    (λ end follows. inl (
      c.in-Ok.notice,
      c.in-Ok.ensures.0,
      c.in-Ok.ensures.1,
      flushed c.in-Ok.notice h c.args.self.now.engine c.follow.new.self.engine first mid _ end kept follows,
    ))
    (c.follow.ensures.step h stands)
