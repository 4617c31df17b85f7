use Rattle.std.proofs.Common.{refl, sym, ◌∙◌, ap, subst, length, List, ℕ, Ok, Err}
use Rattle.std.proofs.lemmas.Result.{err_from_is_err_and}
use Rattle.messages.specs.declared.node.Node.TheVariants.{Client}
use Rattle.client_core.specs.Hearing as hearing
use Rattle.net_world.specs.Trace.{client_opening}
use Rattle.net_world.specs.Happenings.{Restart}
use Rattle.net_world.specs.ClientNodes.{Restarts}
use Rattle.net_world.specs.Asking.{entries}
use Rattle.net_world.proofs.AskLemmas.{nothing_sent}
use Rattle.net_world.proofs.MirrorEndsLemmas.{mirror_word}
use Rattle.net_world.proofs.ServeLemmas.{settled}
use Rattle.net_world.proofs.ClientPlainLemmas.{plain_ends, restart_plain, restart_ends}
use Rattle.net_world.proofs.world.World.restart_client.Goals as goal

pub returns-in_default : goal.returns-in_default
returns-in_default c w past stands = (refl, settled w past c.args.self.now _ stands c.settle.ensures.same refl refl refl refl)

pub returns : goal.returns
returns c w past stands =
    let h = subst (λ mirror. Restarts (client_opening w) (entries w past) mirror c.restart.new.node (Ok tt))
    (c.is_some-mirror.ensures ∙ mirror_word w past c.args.self.now.mirror.node stands.mirror_is)
    (c.in_ok-restart.ensures (client_opening w) (entries w past) (sym (c.count-servers.ensures.value ∙ stands.number)) stands.client_is) in
    plain_ends w past (Restart Client) (hearing.Restart w.mirror) c.in-Ok.first c.plain.result c.args.self.now _ stands
    (nothing_sent c.settle.ensures.same refl refl refl)
    h.2
    (restart_plain w past h.0 h.1)
    refl
    (c.in-Ok.ensures.first ∙ ap (λ (fs : List (List ℕ)). length fs) c.settle.ensures.same)
    c.plain.ensures

pub returns-in_err-restart : goal.returns-in_err-restart
returns-in_err-restart c w past stands =
    let p = err_from_is_err_and c.from_residual.result c.from_residual.ensures.1 in
    rw (p.1, p.2)
    (restart_ends w past c.in_err-restart.field-0.0 c.args.self.now _ stands
    (nothing_sent c.settle.ensures.same refl refl refl)
    (subst (λ mirror. Restarts (client_opening w) (entries w past) mirror c.restart.new.node (Err c.in_err-restart.field-0.0))
    (c.is_some-mirror.ensures ∙ mirror_word w past c.args.self.now.mirror.node stands.mirror_is)
    (c.in_err-restart.ensures (client_opening w) (entries w past) (sym (c.count-servers.ensures.value ∙ stands.number)) stands.client_is)))
