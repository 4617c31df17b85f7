use Rattle.std.proofs.Common.{refl, sym, ◌∙◌, ap, length, List, ℕ}
use Rattle.std.proofs.lemmas.Result.{err_from_is_err_and}
use Rattle.disk_model.specs.declared.save_outcome.SaveOutcome.TheVariants.{Saved}
use Rattle.net_world.specs.Happenings.{Renew}
use Rattle.net_world.specs.Trace.{client_opening}
use Rattle.net_world.specs.Asking.{entries}
use Rattle.net_world.proofs.AskLemmas.{nothing_sent}
use Rattle.net_world.proofs.MetLemmas.{none_added}
use Rattle.net_world.proofs.RenewalEndsLemmas.{renewed, renewal_ends, unrenewed_ends}
use Rattle.net_world.proofs.world.World.renew.Goals as goal

pub returns : goal.returns
returns c w past stands =
    let h = c.in_ok-renew.ensures (client_opening w) (entries w past) (sym (c.count-servers.ensures.value ∙ stands.number)) stands.client_is in
    renewal_ends w past c.args.generation Saved (Renew c.args.generation) c.in-Ok.first c.plain.result c.args.self.now _
    (renewed w past c.args.generation) stands
    (record { sent_is = none_added c.settle.ensures.same; servers_are = refl; files_are = refl; node_is = refl })
    c.generation.view_is
    (sym (c.unrenewable.ensures.why w past stands) ∙ c.in_default.is)
    (c.unrenewable.ensures.fits c.in_default.is)
    h.1 h.2
    (c.in-Ok.ensures.first ∙ ap (λ (fs : List (List ℕ)). length fs) c.settle.ensures.same)
    c.plain.ensures

pub returns-in_err-renew : goal.returns-in_err-renew
returns-in_err-renew c w past stands =
    let p = err_from_is_err_and c.from_residual.result c.from_residual.ensures.1 in
    rw (p.1, p.2)
    (unrenewed_ends w past c.args.generation c.in_err-renew.field-0.0 c.args.self.now _ stands
    (nothing_sent c.settle.ensures.same refl refl refl)
    (sym (c.unrenewable.ensures.why w past stands) ∙ c.in_default.is)
    (c.in_err-renew.ensures (client_opening w) (entries w past) (sym (c.count-servers.ensures.value ∙ stands.number)) stands.client_is))
