use Rattle.std.proofs.Common.{◌≡◌, ◌≤◌, [], true, ap, sym, subst, ◌∙◌}
use Rattle.std.proofs.Math.Logic.{∥∥₁_elim}
use Rattle.std.specs.Coded.{Coded-set, coded_bool, coded_list, coded_ℕ}
use Rattle.fc_base.specs.Counted.{counted}
use Rattle.fc_base.specs.Marks.{counted_by, is_possible_by}
use Rattle.write_order.specs.Progress.{Progress}
use Rattle.write_order.specs.Places.{place}
use Rattle.verify_state.specs.State.{field_faults_by}
use Rattle.engine.specs.Inside.{running_in}
use Rattle.engine.specs.Taken.{CountsTheDone}
use Rattle.engine.proofs.InsideLemmas.{total_limit, window_limit}
use Rattle.engine.proofs.TakenLemmas.{no_faults, possible_in, counted_in, state_with, state_of_history, state_counts}
use Rattle.engine.proofs.engine.Engine.take.Goals as goal

pub unreachable-requires : goal.unreachable-requires
unreachable-requires c =
    let i = c.self.invariant in
    let a = c.self.inside in
    let marks = c.marks-marks.result in
    let issued_is = c.issued-issued.ensures.value ∙ ap (λ (o : Progress). o.issued) i.order in
    let fewer : c.issued-issued.result ≤ a.rec.total = rw (← ap (λ (o : Progress). o.job.total) i.order) c.issued-issued.ensures.range in
    let narrow = window_limit a.rec i.limits in
    let possible : is_possible_by a.rec.depth a.rec.window a.window.issued marks ≡ true =
    ∥∥₁_elim i.history (Coded-set coded_bool _ _) (λ p. possible_in c.marks_law.ensures.comes_to_possible
    (running_in a) marks narrow c.marks-marks.ensures.history p.0 p.1) in
    let none : field_faults_by a.key a.rec c.issued-issued.result marks ≡ [] =
    no_faults a.key a.rec _ marks i.key fewer (total_limit a.rec i.limits) (rw issued_is possible) in
    let refused = rw none at c.in-Err.ensures.refused in
    cc

pub returns-clause-value : goal.returns-clause-value
returns-clause-value c =
    let i = c.self.invariant in
    let a = c.self.inside in
    let marks = c.marks-marks.result in
    let issued_is = c.issued-issued.ensures.value ∙ ap (λ (o : Progress). o.issued) i.order in
    let place_is = c.place.ensures ∙ ap (λ (o : Progress). place o.job o.issued) i.order in
    let counts : counted_by a.rec.window a.window.issued marks ≡ counted a.rec.window a.window.issued a.window.recent =
    ∥∥₁_elim i.history (Coded-set (coded_list coded_ℕ) _ _)
    (λ p. counted_in c.counting_law.ensures.counts_the_completed c.marks_law.ensures.counts_the_completed (running_in a) marks
    (window_limit a.rec i.limits) c.marks-marks.ensures.history p.0 p.1) in
    rw (← c.self.view_is) (c.in-Ok.ensures.made ∙ (rw (issued_is, place_is)
    (state_with a.key a.rec a.window.issued (place a.rec a.window.issued) marks a.window.recent counts)))

pub returns-clause-history : goal.returns-clause-history
returns-clause-history c h s = returns-clause-value c ∙ state_of_history c.args.self.now h s

pub returns-clause-counted : goal.returns-clause-counted
returns-clause-counted c h s =
    subst (λ x. CountsTheDone x h) (sym (returns-clause-value c))
    (state_counts c.counting_law.ensures.counts_the_completed c.counting_law.ensures.comes_to_possible c.args.self.now h s)
