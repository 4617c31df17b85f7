use Rattle.std.proofs.Common.{rules, Some}
use Rattle.client_core.specs.Lives.{RunFor}
use Rattle.client_core.proofs.DeedLemmas.{run_stays, begins_other, attempt_stays, begins_no_attempt}
use Rattle.client_core.proofs.LifeLemmas.{set_at_key, found_at}
use Rattle.client_core.proofs.life.Life.begin.Goals as goal

pub returns-in-Some : goal.returns-in-Some
returns-in-Some c deeds h =
    let run = c.args.run in
    let text = c.args.text in
    record {
      runs = set_at_key c.args.self.now.runs (c.get_mut.follows.lender c.begin.new.self) _ run (Some c.begin.new.self) (λ q. RunFor q deeds) _ c.run.view_is
          (((c.get_mut.follows.holds c.begin.new.self).3 (search rules)).0)
          (c.begin.ensures run deeds (found_at c.args.self.now.runs _ run (Some c.in-Some.asked.now) (RunFor run deeds) c.run.view_is c.in-Some.ensures.value
          (h.runs run)))
          (λ q x n k. run_stays q _ deeds x (begins_other q run text deeds n) k) h.runs;
      attempts = λ a. attempt_stays a _ deeds _ (begins_no_attempt a run text deeds) (h.attempts a);
      reports_are = h.reports_are;
      copied = h.copied;
    }
