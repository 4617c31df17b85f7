use Rattle.std.proofs.Common.{◌≡◌, ap, sym, subst, ◌∙◌, map, Some}
use Rattle.std.specs.Vec.{with_items}
use Rattle.std.proofs.Math.Logic.{∥∥₁_map}
use Rattle.std.proofs.lemmas.List.{with_items_is}
use Rattle.server_core.specs.declared.job_run.End.TheVariants as ends
use Rattle.server_core.specs.Request.{ToStop}
use Rattle.server_core.specs.Run.{Work}
use Rattle.server_core.specs.Kept.{Kept, RunIs, stopped_kept}
use Rattle.server_core.specs.Inside.{kept_in}
use Rattle.server_core.proofs.RowLemmas.{and_then, kept_by}
use Rattle.server_core.proofs.HaltLemmas.{stop_step}
use Rattle.server_core.proofs.run.Run.stop.Goals as goal

rows : (c : goal.After-self-2-1) → (with_items c.self.inside.kept c.stop_all.new.jobs).items ≡ map stopped_kept c.self.inside.kept.items
rows c = with_items_is c.self.inside.kept c.stop_all.new.jobs (c.stop_all.auto.jobs ∙ c.deref_mut.ensures.len) ∙ c.stop_all.ensures
    ∙ ap (map stopped_kept) c.deref_mut.ensures.value

step : (c : goal.After-self-2-1) (w : Work) → RunIs (kept_in c.self.inside) w
    → RunIs (kept_by c.self.inside.number (Some ends.Stopped) c.self.inside.jobs (with_items c.self.inside.kept c.stop_all.new.jobs).items)
    (and_then w (ToStop w.run))
step c w h =
    subst (λ ks. RunIs (kept_by c.self.inside.number (Some ends.Stopped) c.self.inside.jobs ks) (and_then w (ToStop w.run))) (sym (rows c))
    (stop_step (kept_in c.self.inside) w h (ap (λ (k : Kept). k.end) c.self.view_is ∙ c.requires))

pub invariant_of-self : goal.invariant_of-self
invariant_of-self c = ∥∥₁_map c.self.invariant (λ p. (and_then p.0 (ToStop p.0.run), step c p.0 p.1))

pub returns : goal.returns
returns c w h = step c w (subst (λ k. RunIs k w) (sym c.self.view_is) h)
