use Rattle.std.proofs.Common.{rules, sym, subst, ◌∷◌, ℕ, Some}
use Rattle.std.specs.Ordering.{nat_cmp}
use Rattle.std.specs.BTreeMap.{get}
use Rattle.messages.specs.declared.body.Body.TheVariants.{Report}
use Rattle.client_core.specs.Life.{Hears}
use Rattle.client_core.specs.Lives.{AttemptFor}
use Rattle.client_core.proofs.DeedLemmas.{attempt_stays, hears_other_attempt}
use Rattle.client_core.proofs.LifeLemmas.{set_at_key, found_at, none_at_key}
use Rattle.client_core.proofs.UnaskedLemmas.{unmade_hears}
use Rattle.client_core.proofs.life.Life.tell_report.Goals as goal

pub returns-in-Some-clause-attempts : goal.returns-in-Some-clause-attempts
returns-in-Some-clause-attempts c deeds report h =
    let attempt = c.args.attempt in
    let body = Report c.args.run attempt c.args.job c.args.jobs report in
    let deed = Hears c.args.server body in
    set_at_key c.args.self.now.attempts (c.get_mut.follows.lender c.report_at.new.place) _ attempt (Some c.report_at.new.place) (λ q. AttemptFor q deeds)
    (λ q. AttemptFor q (deed ∷ deeds)) c.attempt.view_is
    (((c.get_mut.follows.holds c.report_at.new.place).3 (search rules)).0)
    (c.report_at.ensures attempt deeds report (found_at c.args.self.now.attempts _ attempt (Some c.in-Some.place.now)
    (AttemptFor attempt deeds) c.attempt.view_is c.in-Some.ensures.value (h attempt)))
    (λ q x n k. attempt_stays q deed deeds x (hears_other_attempt q c.args.server body deeds n) k) h

pub returns-in_default-clause-attempts : goal.returns-in_default-clause-attempts
returns-in_default-clause-attempts c deeds report h =
    let attempt = c.args.attempt in
    let body = Report c.args.run attempt c.args.job c.args.jobs report in
    let deed = Hears c.args.server body in
    subst (λ m. (q : ℕ) → AttemptFor q (deed ∷ deeds) (get nat_cmp m q)) (sym c.get_mut.follows.holds-at-none)
    (none_at_key c.args.self.now.attempts _ attempt (λ q. AttemptFor q deeds) (λ q. AttemptFor q (deed ∷ deeds)) c.attempt.view_is c.in_default.ensures.value
    (unmade_hears attempt c.args.server body deeds)
    (λ q x n k. attempt_stays q deed deeds x (hears_other_attempt q c.args.server body deeds n) k) h)
