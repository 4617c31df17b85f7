use Rattle.std.proofs.Common.{sym, subst, Bool, ◌∷◌, Ok, Err}
use Rattle.disk_model.specs.declared.save_outcome.SaveOutcome.TheVariants.{Saved}
use Rattle.server_core.specs.Hearing.{Restart}
use Rattle.net_world.specs.ServerNodes.{CutsInRestart}
use Rattle.net_world.proofs.CutLemmas.{restart_new, restart_fails}
use Rattle.net_world.proofs.server_node.cut_in_restart.Goals as goal

pub returns-then-not-landed : goal.returns-then-not-landed
returns-then-not-landed c o past me stands =
    subst (λ (b : Bool). CutsInRestart o past b c.try_restart.new.node c.try_restart.result) (sym c.if-not-landed.true) (c.try_restart.ensures o past stands)

pub returns-in-Ok : goal.returns-in-Ok
returns-in-Ok c o past me stands =
    let h = c.in-Ok.ensures o past me stands in
    subst (λ (b : Bool). CutsInRestart o past b c.cut.new.node (Ok tt)) (sym c.if-not-landed.false)
    (restart_new o past c.cut.new.node h.0 h.1 (c.cut.ensures o (Restart Saved ∷ past) h.2))

pub returns-in-Err : goal.returns-in-Err
returns-in-Err c o past me stands =
    subst (λ f. CutsInRestart o past c.args.landed c.restart.new.node (Err f)) (sym c.no_save.ensures)
    (restart_fails o past c.args.landed c.restart.new.node c.in-Err.fault (c.in-Err.ensures o past me stands))
