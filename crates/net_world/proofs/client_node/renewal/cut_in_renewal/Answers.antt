use Rattle.std.proofs.Common.{refl, sym, subst, Bool, ◌∷◌}
use Rattle.disk_model.specs.declared.save_outcome.SaveOutcome.TheVariants.{Saved, LostOld}
use Rattle.client_core.specs.Hearing.{Renew, Cut}
use Rattle.net_world.specs.ClientNodes.{Stands}
use Rattle.node.specs.Kinds.{lost_by}
use Rattle.net_world.proofs.ClientPowerLemmas.{is_off, none_said}
use Rattle.net_world.proofs.RenewalLemmas.{found, fails, cut_new}
use Rattle.net_world.proofs.client_node.renewal.cut_in_renewal.Goals as goal

pub returns-then-eq : goal.returns-then-eq
returns-then-eq c o past me stands =
    found o past c.args.generation c.args.landed c.renew.new.node c.in-Err.fault (c.if-eq.ensures) (c.in-Err.ensures o past me stands)

pub returns-else-eq : goal.returns-else-eq
returns-else-eq c o past me stands =
    fails o past c.args.generation c.args.landed c.renew.new.node c.in-Err.fault (c.if-eq.ensures) (c.in-Err.ensures o past me stands)

pub returns-else-not-landed : goal.returns-else-not-landed
returns-else-not-landed c o past me stands =
    let h = c.in_default.ensures o past me stands in
    let off = cut_new o past c.args.generation c.cut.new.node (c.cut.ensures o (Renew c.args.generation Saved ∷ past) h.2) in
    (h.0, h.1, subst (λ (landed : Bool). Stands o (Renew c.args.generation (lost_by landed) ∷ past) c.cut.new.node) (sym c.if-not-landed.false) off)

pub returns-then-not-landed : goal.returns-then-not-landed
returns-then-not-landed c o past me stands =
    let h = c.in_default.ensures o past me stands in
    let renewed = Renew c.args.generation Saved ∷ past in
    let off = is_off o (Cut ∷ renewed) c.cut.new.node (c.cut.ensures o renewed h.2) refl in
    let gone = none_said o (Renew c.args.generation LostOld ∷ past) c.forget.new.node (c.forget.ensures off.0 off.1) refl h.1 in
    (h.0, h.1, subst (λ (landed : Bool). Stands o (Renew c.args.generation (lost_by landed) ∷ past) c.forget.new.node) (sym c.if-not-landed.true) gone)
