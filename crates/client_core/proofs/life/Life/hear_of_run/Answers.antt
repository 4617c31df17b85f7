use Rattle.std.proofs.Common.{rules, ◌≡◌, sym, subst, ◌==◌, ◌∷◌, ℕ, false, Some}
use Rattle.std.specs.Ordering.{nat_cmp}
use Rattle.std.specs.BTreeMap.{get}
use Rattle.client_core.specs.Life.{Hears}
use Rattle.client_core.specs.Lives.{RunFor}
use Rattle.client_core.proofs.DeedLemmas.{run_stays, hears_other}
use Rattle.client_core.proofs.LifeLemmas.{set_at_key, found_at, none_at_key}
use Rattle.client_core.proofs.UnaskedLemmas.{unnamed_hears}
use Rattle.client_core.proofs.life.Life.hear_of_run.Goals as goal

pub returns-in-Some-clause-runs : goal.returns-in-Some-clause-runs
returns-in-Some-clause-runs c deeds h =
    let run = c.run_told-run.result in
    let deed = Hears c.args.server c.args.body.now in
    set_at_key c.args.self.now.runs (c.get_mut.follows.lender c.hear.new.self) _ run (Some c.hear.new.self) (λ q. RunFor q deeds)
    (λ q. RunFor q (deed ∷ deeds)) c.run.view_is
    (((c.get_mut.follows.holds c.hear.new.self).3 (search rules)).0)
    (c.hear.ensures deeds (found_at c.args.self.now.runs _ run (Some c.in-Some.asked.now) (RunFor run deeds) c.run.view_is c.in-Some.ensures.value (h run)))
    (λ q x n k. run_stays q deed deeds x (hears_other q c.args.server c.args.body.now deeds (subst (λ r. (r == q) ≡ false) c.run_told-run.ensures n)) k) h

pub returns-in_default-clause-runs : goal.returns-in_default-clause-runs
returns-in_default-clause-runs c deeds h =
    let run = c.run_told-run.result in
    let deed = Hears c.args.server c.args.body.now in
    subst (λ m. (q : ℕ) → RunFor q (deed ∷ deeds) (get nat_cmp m q)) (sym c.get_mut.follows.holds-at-none)
    (none_at_key c.args.self.now.runs _ run (λ q. RunFor q deeds) (λ q. RunFor q (deed ∷ deeds)) c.run.view_is c.in_default.ensures.value
    (unnamed_hears run c.args.server c.args.body.now deeds)
    (λ q x n k. run_stays q deed deeds x (hears_other q c.args.server c.args.body.now deeds (subst (λ r. (r == q) ≡ false) c.run_told-run.ensures n)) k) h)
