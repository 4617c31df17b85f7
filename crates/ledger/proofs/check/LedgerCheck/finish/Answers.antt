use Rattle.std.proofs.Common.{ap, ◌∙◌}
use Rattle.ledger.specs.Checks.{report_of}
use Rattle.ledger.proofs.CheckLemmas.{ends}
use Rattle.ledger.proofs.check.LedgerCheck.finish.Goals as goal

pub returns-clause-seen : goal.returns-clause-seen
returns-clause-seen c place held seen =
    let both = ends c.args.self place held seen in
    (c.into_report.ensures ∙ ap (λ k. report_of k.found) c.self.view_is ∙ both.0, ap (λ k. k.place) c.self.view_is ∙ both.1)
