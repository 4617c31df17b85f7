use Rattle.std.proofs.Common.{◌≡◌, ◌∙◌, ◌++◌, ap, sym, subst, append-nil}
use Rattle.messages.specs.FrameBytes.{frame_at, frame_faults}
use Rattle.attempt_ends.specs.Attempts.{AttemptsKept}
use Rattle.filters.specs.ClientAsks.{input_in}
use Rattle.filters.specs.ClientRuns.{attempts_added}
use Rattle.filters.proofs.AttemptLemmas.{frame_adds}
use Rattle.filters.proofs.client_filter.ClientFilter.ask.Goals as goal

pub returns-in-Frame-clause-attempts : goal.returns-in-Frame-clause-attempts
returns-in-Frame-clause-attempts c = λ o p h is.
    let old = c.args.self.now.attempts.made in
    let body = c.args.body.now in
    subst (λ k. c.take.new.self.attempts.made ≡ old ++ attempts_added o p (input_in k body) c.take.result) (sym c.in-Frame.is)
    (ap (λ (a : AttemptsKept). a.made) c.take.ensures.same.attempts ∙ sym (append-nil old)
    ∙ ap (λ more. old ++ more) (sym (frame_adds o p (frame_faults body) (frame_at body) c.take.result)))
