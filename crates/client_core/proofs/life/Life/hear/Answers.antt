use Rattle.std.proofs.Common.{sym, ◌∙◌, ap, subst, ◌∷◌, ℕ}
use Rattle.std.specs.Ordering.{nat_cmp}
use Rattle.std.specs.BTreeMap.{get}
use Rattle.client_core.specs.Life.{Hears}
use Rattle.client_core.specs.Lives.{RunFor, AttemptFor}
use Rattle.fc_base.specs.declared.numbers.Key.{Key}
use Rattle.fc_base.specs.Keys.{is_same_key}
use Rattle.std.specs.HashSet.{HashSet, contains}
use Rattle.client_core.proofs.LifeLemmas.{no_report_heard}
use Rattle.client_core.proofs.MirrorLifeLemmas.{server_keeps_none}
use Rattle.client_core.proofs.life.Life.hear.Goals as goal

pub returns : goal.returns
returns c deeds h =
    let deed = Hears c.args.server c.args.body.now in
    record {
      runs = subst (λ m. (q : ℕ) → RunFor q (deed ∷ deeds) (get nat_cmp m q)) (sym c.hear_of_attempt.ensures.runs) (c.hear_of_run.ensures.runs deeds h.runs);
      attempts = c.hear_of_attempt.ensures.attempts deeds
          (subst (λ m. (q : ℕ) → AttemptFor q deeds (get nat_cmp m q)) (sym c.hear_of_run.ensures.attempts) h.attempts);
      reports_are = c.hear_of_attempt.ensures.reports ∙ (c.hear_of_run.ensures.reports
          ∙ (h.reports_are ∙ sym (no_report_heard c.args.server c.args.body.now deeds _ c.requires.no_report)));
      copied = λ key. ap (λ (m : HashSet Key _). contains is_same_key m key) (c.hear_of_attempt.ensures.copied ∙ c.hear_of_run.ensures.copied) ∙ h.copied key
          ∙ sym (server_keeps_none c.args.server c.args.body.now key deeds c.requires.server);
    }
