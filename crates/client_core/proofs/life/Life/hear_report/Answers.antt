use Rattle.std.proofs.Common.{sym, subst, ◌∙◌, ap, ◌∷◌, ℕ}
use Rattle.std.specs.Ordering.{nat_cmp}
use Rattle.std.specs.BTreeMap.{get}
use Rattle.messages.specs.declared.body.Body.TheVariants.{Report}
use Rattle.fc_base.specs.declared.numbers.Key.{Key}
use Rattle.fc_base.specs.Keys.{is_same_key}
use Rattle.std.specs.HashSet.{HashSet, contains}
use Rattle.client_core.specs.Life.{Hears}
use Rattle.client_core.specs.Lives.{RunFor, AttemptFor}
use Rattle.client_core.specs.Reports.{reports_heard, report_body}
use Rattle.client_core.proofs.DeedLemmas.{run_stays, hears_report}
use Rattle.client_core.proofs.MirrorLifeLemmas.{server_keeps_none}
use Rattle.client_core.proofs.life.Life.hear_report.Goals as goal

pub returns-clause-left : goal.returns-clause-left
returns-clause-left c deeds h =
    let r = c.args.received in
    let body = report_body r c.args.jobs in
    let deed = Hears r.server body in
    record {
      runs = subst (λ m. (q : ℕ) → RunFor q (deed ∷ deeds) (get nat_cmp m q)) (sym (c.tell_report.ensures.runs ∙ c.keep_report.ensures.runs))
          (λ q. run_stays q deed deeds _ (hears_report q r.server r.run r.attempt r.job c.args.jobs r.report deeds) (h.runs q));
      attempts = subst (λ s. (q : ℕ) → AttemptFor q (Hears s body ∷ deeds) (get nat_cmp c.tell_report.new.self.attempts q)) c.server.view_is
          (subst (λ j. (q : ℕ) → AttemptFor q (Hears c.server.inside.0 (Report r.run r.attempt j c.args.jobs r.report) ∷ deeds)
          (get nat_cmp c.tell_report.new.self.attempts q)) c.job.view_is
          (c.tell_report.ensures.attempts deeds r.report
          (subst (λ m. (q : ℕ) → AttemptFor q deeds (get nat_cmp m q)) (sym c.keep_report.ensures.attempts) h.attempts)));
      reports_are = c.tell_report.ensures.reports ∙ (c.in_ok-keep_report.ensures.kept deeds h.attempts ∙ ap (reports_heard deeds r.server body) h.reports_are);
      copied = λ key. ap (λ (m : HashSet Key _). contains is_same_key m key) (c.tell_report.ensures.copied ∙ c.keep_report.ensures.copied) ∙ h.copied key
          ∙ sym (server_keeps_none r.server body key deeds c.requires.server);
    }
