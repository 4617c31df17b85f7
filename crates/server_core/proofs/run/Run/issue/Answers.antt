use Rattle.std.proofs.Common.{◌≡◌, ◌≤◌, ap, sym, subst, arith, length}
use Rattle.std.specs.Prelude.{set, slice_get}
use Rattle.std.proofs.Math.Logic.{∥∥₁_map}
use Rattle.std.proofs.lemmas.Option.{slice_get_read}
use Rattle.server_core.specs.Request.{ToIssue}
use Rattle.server_core.specs.Run.{Work}
use Rattle.server_core.specs.Answers.{issue_of_job}
use Rattle.server_core.specs.Kept.{Kept, RunIs}
use Rattle.server_core.specs.Inside.{kept_in}
use Rattle.server_core.proofs.RowLemmas.{and_then}
use Rattle.server_core.proofs.RunLemmas.{issue_step, no_issue}
use Rattle.server_core.proofs.run.Run.issue.Goals as goal

step : (c : goal.After-self-1) (w : Work) → RunIs (kept_in c.self.inside) w
    → (c.issue.result ≡ issue_of_job w c.index_of-index.result (slice_get w.jobs c.index_of-index.result))
    × RunIs (record (kept_in c.self.inside) {
      kept = set c.self.inside.kept.items c.index_of-index.result
          (record c.index_mut.result.now { engine = c.issue.new.self });
    }) (and_then w (ToIssue c.index_of-index.result))
step c w h =
    let at = slice_get_read c.self.inside.kept.items (length c.as_slice.result.now) c.index_of-index.result c.index_mut.result.now
    (ap length c.as_slice.ensures.value) c.if-index-as_slice.true c.index_mut.ensures.value in
    issue_step c.legal_histories.ensures.histories (kept_in c.self.inside) w c.index_of-index.result c.index_mut.result.now c.issue.new.self c.issue.result h at
    c.issue.ensures.answer c.issue.ensures.left c.issue.ensures.added

pub invariant_of-self : goal.invariant_of-self
invariant_of-self c = ∥∥₁_map c.self.invariant (λ p. (and_then p.0 (ToIssue c.index_of-index.result), (step c p.0 p.1).1))

pub returns-then-index-as_slice-clause-answer : goal.returns-then-index-as_slice-clause-answer
returns-then-index-as_slice-clause-answer c w h = rw (← c.index_of-index.ensures) (step c w (subst (λ k. RunIs k w) (sym c.self.view_is) h)).0

pub returns-then-index-as_slice-clause-left : goal.returns-then-index-as_slice-clause-left
returns-then-index-as_slice-clause-left c w h = rw (← c.index_of-index.ensures) (step c w (subst (λ k. RunIs k w) (sym c.self.view_is) h)).1

none : (c : goal.Else-index-as_slice) → length c.args.self.now.kept ≤ c.index_of-index.result
none c = omega (arith, c.if-index-as_slice.false, ap length c.as_slice.ensures.value, ap (λ (k : Kept). length k.kept) c.self.view_is)

pub returns-else-index-as_slice-clause-answer : goal.returns-else-index-as_slice-clause-answer
returns-else-index-as_slice-clause-answer c w h = rw (← c.index_of-index.ensures) (no_issue c.args.self.now w c.index_of-index.result h (none c)).0

pub returns-else-index-as_slice-clause-left : goal.returns-else-index-as_slice-clause-left
returns-else-index-as_slice-clause-left c w h = rw (← c.index_of-index.ensures) (no_issue c.args.self.now w c.index_of-index.result h (none c)).1
