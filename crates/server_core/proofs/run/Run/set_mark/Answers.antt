use Rattle.std.proofs.Common.{true, ap, sym, subst, ◌∙◌, arith, length}
use Rattle.std.specs.Prelude.{set, is_some}
use Rattle.std.proofs.Math.Logic.{∥∥₁_map}
use Rattle.std.proofs.lemmas.Option.{slice_get_read}
use Rattle.server_core.specs.Request.{ToMark}
use Rattle.server_core.specs.Run.{Work}
use Rattle.server_core.specs.Kept.{Kept, RunIs, act_of_end}
use Rattle.server_core.specs.Inside.{kept_in}
use Rattle.server_core.proofs.RowLemmas.{and_then}
use Rattle.server_core.proofs.MarkLemmas.{mark_step, mark_past}
use Rattle.server_core.proofs.run.Run.set_mark.Goals as goal

step : (c : goal.After-self-1) (w : Work) → RunIs (kept_in c.self.inside) w
    → RunIs (record (kept_in c.self.inside) { kept = set c.self.inside.kept.items c.args.index (record c.index_mut.result.now { marked = true }) })
    (and_then w (ToMark w.run c.args.index))
step c w h =
    let at = slice_get_read c.self.inside.kept.items (length c.as_slice.result.now) c.args.index c.index_mut.result.now
    (ap length c.as_slice.ensures.value) c.if-index-as_slice.true c.index_mut.ensures.value in
    mark_step (kept_in c.self.inside) w c.args.index c.index_mut.result.now h (ap (λ (k : Kept). is_some (act_of_end k.end)) c.self.view_is ∙ c.requires) at

pub invariant_of-self : goal.invariant_of-self
invariant_of-self c = ∥∥₁_map c.self.invariant (λ p. (and_then p.0 (ToMark p.0.run c.args.index), step c p.0 p.1))

pub returns-then-index-as_slice-clause-left : goal.returns-then-index-as_slice-clause-left
returns-then-index-as_slice-clause-left c w h = step c w (subst (λ k. RunIs k w) (sym c.self.view_is) h)

pub returns-else-index-as_slice-clause-left : goal.returns-else-index-as_slice-clause-left
returns-else-index-as_slice-clause-left c w h = mark_past c.args.self.now w c.args.index h c.requires
    (omega (arith, c.if-index-as_slice.false, ap length c.as_slice.ensures.value, ap (λ (k : Kept). length k.kept) c.self.view_is))
