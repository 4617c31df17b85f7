use Rattle.std.proofs.Common.{◌≤◌, ◌∙◌, ap, sym, subst, arith, length}
use Rattle.std.proofs.lemmas.Option.{slice_get_read}
use Rattle.server_core.specs.Kept.{Kept, RunIs}
use Rattle.server_core.specs.Inside.{kept_in}
use Rattle.server_core.proofs.ShownLemmas.{taken_here, taken_nowhere}
use Rattle.server_core.proofs.run.Run.taken.Goals as goal

pub returns-then-index-as_slice : goal.returns-then-index-as_slice
returns-then-index-as_slice c w h =
    c.as_ref.ensures.value ∙ (rw (← c.index_of-index.ensures)
    (taken_here (kept_in c.self.inside) w c.index_of-index.result c.index.result.now (subst (λ k. RunIs k w) (sym c.self.view_is) h)
    (slice_get_read c.self.inside.kept.items (length c.as_slice.result.now) c.index_of-index.result c.index.result.now
    (ap length c.as_slice.ensures.value) c.if-index-as_slice.true c.index.ensures)))

none : (c : goal.Else-index-as_slice) → length c.args.self.now.kept ≤ c.index_of-index.result
none c = omega (arith, c.if-index-as_slice.false, ap length c.as_slice.ensures.value, ap (λ (k : Kept). length k.kept) c.self.view_is)

pub returns-else-index-as_slice : goal.returns-else-index-as_slice
returns-else-index-as_slice c w h = rw (← c.index_of-index.ensures) (taken_nowhere c.args.self.now w c.index_of-index.result h (none c))
