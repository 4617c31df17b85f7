use Rattle.std.proofs.Common.{◌≡◌, ◌≤◌, ap, sym, subst, arith, length}
use Rattle.std.specs.Prelude.{set, slice_get}
use Rattle.std.proofs.Math.Logic.{∥∥₁_map}
use Rattle.std.proofs.lemmas.Option.{slice_get_read}
use Rattle.server_core.specs.declared.input.WriteEnd.TheVariants.{Done, Failed}
use Rattle.server_core.specs.Request.{ToEnd}
use Rattle.server_core.specs.Run.{Work}
use Rattle.server_core.specs.Answers.{names_open_of}
use Rattle.server_core.specs.Kept.{Kept, RunIs, open_answer}
use Rattle.server_core.specs.Inside.{kept_in}
use Rattle.server_core.proofs.RowLemmas.{and_then}
use Rattle.server_core.proofs.EndLemmas.{end_step, no_end}
use Rattle.server_core.proofs.run.Run.end_write.Goals as goal

-- ---- a completion

done_step : (c : goal.After-self-1) (w : Work) → RunIs (kept_in c.self.inside) w
    → (w.boot ≡ c.args.ticket.boot → c.done.result ≡ open_answer (names_open_of w c.args.ticket (slice_get w.jobs c.args.ticket.key.job)))
    × RunIs (record (kept_in c.self.inside) {
      kept = set c.self.inside.kept.items c.index_in-index.result (record c.index_mut.result.now { engine = c.done.new.self });
    }) (and_then w (ToEnd c.args.ticket Done))
done_step c w h =
    let at = slice_get_read c.self.inside.kept.items (length c.as_slice.result.now) c.index_in-index.result c.index_mut.result.now
    (ap length c.as_slice.ensures.value) c.if-index-as_slice.true c.index_mut.ensures.value in
    rw c.index_in-index.ensures
    (end_step c.legal_histories.ensures.histories (kept_in c.self.inside) w c.args.ticket Done c.index_mut.result.now c.done.new.self c.done.result h
    (rw (← c.index_in-index.ensures) at) c.done.ensures.answer c.done.ensures.left c.done.ensures.added)

pub invariant_of-self : goal.invariant_of-self
invariant_of-self c = ∥∥₁_map c.self.invariant (λ p. (and_then p.0 (ToEnd c.args.ticket Done), (done_step c p.0 p.1).1))

pub returns-in-Done-clause-answer : goal.returns-in-Done-clause-answer
returns-in-Done-clause-answer c w h = (done_step c w (subst (λ k. RunIs k w) (sym c.self.view_is) h)).0

pub returns-in-Done-clause-left : goal.returns-in-Done-clause-left
returns-in-Done-clause-left c w h = rw c.in-Done.is (done_step c w (subst (λ k. RunIs k w) (sym c.self.view_is) h)).1

-- ---- a failure

failed_step : (c : goal.After-self-in-Failed-1) (w : Work) → RunIs (kept_in c.self.inside) w
    → (w.boot ≡ c.args.ticket.boot → c.failed.result ≡ open_answer (names_open_of w c.args.ticket (slice_get w.jobs c.args.ticket.key.job)))
    × RunIs (record (kept_in c.self.inside) {
      kept = set c.self.inside.kept.items c.index_in-index.result (record c.index_mut-in-Failed.result.now { engine = c.failed.new.self });
    }) (and_then w (ToEnd c.args.ticket Failed))
failed_step c w h =
    let at = slice_get_read c.self.inside.kept.items (length c.as_slice.result.now) c.index_in-index.result c.index_mut-in-Failed.result.now
    (ap length c.as_slice.ensures.value) c.if-index-as_slice.true c.index_mut-in-Failed.ensures.value in
    rw c.index_in-index.ensures
    (end_step c.legal_histories.ensures.histories (kept_in c.self.inside) w c.args.ticket Failed c.index_mut-in-Failed.result.now c.failed.new.self
    c.failed.result h (rw (← c.index_in-index.ensures) at) c.failed.ensures.answer c.failed.ensures.left c.failed.ensures.added)

pub invariant_of-self-in-Failed : goal.invariant_of-self-in-Failed
invariant_of-self-in-Failed c = ∥∥₁_map c.self.invariant (λ p. (and_then p.0 (ToEnd c.args.ticket Failed), (failed_step c p.0 p.1).1))

pub returns-in-Failed-clause-answer : goal.returns-in-Failed-clause-answer
returns-in-Failed-clause-answer c w h = (failed_step c w (subst (λ k. RunIs k w) (sym c.self.view_is) h)).0

pub returns-in-Failed-clause-left : goal.returns-in-Failed-clause-left
returns-in-Failed-clause-left c w h = rw c.in-Failed.is (failed_step c w (subst (λ k. RunIs k w) (sym c.self.view_is) h)).1

-- ---- no such job

none : (c : goal.Else-index-as_slice) → length c.args.self.now.kept ≤ c.args.ticket.key.job
none c = omega (arith, c.if-index-as_slice.false, c.index_in-index.ensures, ap length c.as_slice.ensures.value, ap (λ (k : Kept). length k.kept) c.self.view_is)

pub returns-else-index-as_slice-clause-answer : goal.returns-else-index-as_slice-clause-answer
returns-else-index-as_slice-clause-answer c w h boot = (no_end c.args.self.now w c.args.ticket c.args.end h (none c)).0

pub returns-else-index-as_slice-clause-left : goal.returns-else-index-as_slice-clause-left
returns-else-index-as_slice-clause-left c w h = (no_end c.args.self.now w c.args.ticket c.args.end h (none c)).1
