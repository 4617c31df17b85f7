use Rattle.std.proofs.Common.{◌≡◌, sym, ◌∙◌, subst, true, false, ◌++◌, ◌∷◌, []}
use Rattle.client_core.specs.declared.reports.ReportKey.{ReportKey}
use Rattle.client_core.specs.Reports.{has_report, with_report}
use Rattle.client_core.proofs.ReportKeyLemmas.{is_there, is_new}
use Rattle.client_core.proofs.reports.Reports.add.Goals as goal

pub returns-then-contains-clause-added : goal.returns-then-contains-clause-added
returns-then-contains-clause-added c =
    let r = c.args.received in
    let key : ReportKey = record { attempt = r.attempt; server = r.server; job = r.job } in
    let rs = c.self.inside.list.items in
    let there : has_report r.attempt r.server r.job rs ≡ true = sym (c.self.invariant key) ∙ sym c.contains.ensures ∙ c.if-contains.true in
    subst (λ reports. reports ≡ with_report r reports) c.self.view_is (is_there rs r there)

pub returns-in-Ok-clause-added : goal.returns-in-Ok-clause-added
returns-in-Ok-clause-added c =
    let r = c.args.received in
    let key : ReportKey = record { attempt = r.attempt; server = r.server; job = r.job } in
    let rs = c.self.inside.list.items in
    let none : has_report r.attempt r.server r.job rs ≡ false = sym (c.self.invariant key) ∙ sym c.contains.ensures ∙ c.if-contains.false in
    c.in_ok-push.ensures.items ∙ subst (λ reports. rs ++ r ∷ [] ≡ with_report r reports) c.self.view_is (is_new rs r none)
