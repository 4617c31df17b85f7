use Rattle.std.proofs.Common.{◌∙◌, ◌++◌, ap}
use Rattle.attempt_ends.specs.Attempts.{AttemptsKept}
use Rattle.filters.specs.ClientRuns.{attempts_numbered}
use Rattle.filters.proofs.AttemptLemmas.{made_now}
use Rattle.filters.proofs.client_filter.ClientFilter.verify.Goals as goal

pub returns-in-Ok-verify_by_client-clause-attempts : goal.returns-in-Ok-verify_by_client-clause-attempts
returns-in-Ok-verify_by_client-clause-attempts c = λ o p h is.
    let number = c.in-Ok-verify_by_client.answered.number in
    let added = attempts_numbered c.args.run c.in-Ok.asked number in
    let ends = c.in-Ok-verify_by_client.ensures.ends o p h in
    c.push_answered.ensures
    ∙ ap (λ (a : AttemptsKept). a.made ++ added) c.in-Ok-verify_by_client.ensures.same.attempts
    ∙ ap (λ ms. ms ++ added) c.in-Ok-reserve.ensures.same
    ∙ ap (λ more. c.args.self.now.attempts.made ++ more)
    (made_now c.looks_at_all.ensures o p c.args.run c.args.text.now c.args.self.now.servers c.in-Ok.asked number ends.free is (c.in-Ok.ensures o p h) ends.number)
