use Rattle.std.proofs.Common.{rules, Some}
use Rattle.client_core.specs.Lives.{AttemptFor}
use Rattle.client_core.proofs.DeedLemmas.{run_stays, verifies_no_run, attempt_stays, verifies_other}
use Rattle.client_core.proofs.LifeLemmas.{set_at_key}
use Rattle.client_core.proofs.life.Life.verify.Goals as goal

pub returns-in-Some : goal.returns-in-Some
returns-in-Some c deeds h =
    let attempt = c.args.attempt in
    let asked = c.args.asked in
    record {
      runs = λ q. run_stays q _ deeds _ (verifies_no_run q asked.run attempt asked.text deeds) (h.runs q);
      attempts = set_at_key c.args.self.now.attempts (c.get_mut.follows.lender (Some asked)) _ attempt (Some (Some asked))
          (λ q. AttemptFor q deeds) _ c.attempt.view_is
          (((c.get_mut.follows.holds (Some asked)).3 (search rules)).0)
          (c.requires.asked deeds)
          (λ q x n k. attempt_stays q _ deeds x (verifies_other q asked.run attempt asked.text deeds n) k) h.attempts;
      reports_are = h.reports_are;
      copied = h.copied;
    }
