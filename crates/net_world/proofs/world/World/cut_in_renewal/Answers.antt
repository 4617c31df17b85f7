use Rattle.std.proofs.Common.{refl, sym, ◌∙◌, ap, length, List, ℕ}
use Rattle.std.proofs.lemmas.Result.{err_from_is_err_and}
use Rattle.net_world.specs.Happenings.{Renew, CutIn}
use Rattle.node.specs.Kinds.{lost_by}
use Rattle.net_world.specs.Trace.{client_opening}
use Rattle.net_world.specs.Asking.{entries}
use Rattle.net_world.proofs.AskLemmas.{nothing_sent}
use Rattle.net_world.proofs.MetLemmas.{none_added}
use Rattle.net_world.proofs.RenewalEndsLemmas.{cut_in, renewal_ends, uncut_ends}
use Rattle.net_world.proofs.world.World.cut_in_renewal.Goals as goal

pub returns : goal.returns
returns c w past stands =
    let h = c.in_ok-cut_in_renewal.ensures (client_opening w) (entries w past) (sym (c.count-servers.ensures.value ∙ stands.number)) stands.client_is in
    renewal_ends w past c.args.generation (lost_by c.args.landed) (CutIn c.args.landed (Renew c.args.generation)) c.in-Ok.first c.plain.result c.args.self.now _
    (cut_in w past c.args.generation c.args.landed) stands
    (record { sent_is = none_added c.settle.ensures.same; servers_are = refl; files_are = refl; node_is = refl })
    c.generation.view_is
    (sym (c.unrenewable.ensures.why w past stands) ∙ c.in_default.is)
    (c.unrenewable.ensures.fits c.in_default.is)
    h.1 h.2
    (c.in-Ok.ensures.first ∙ ap (λ (fs : List (List ℕ)). length fs) c.settle.ensures.same)
    c.plain.ensures

pub returns-in_err-cut_in_renewal : goal.returns-in_err-cut_in_renewal
returns-in_err-cut_in_renewal c w past stands =
    let p = err_from_is_err_and c.from_residual.result c.from_residual.ensures.1 in
    rw (p.1, p.2)
    (uncut_ends w past c.args.generation c.args.landed c.in_err-cut_in_renewal.field-0.0 c.args.self.now _ stands
    (nothing_sent c.settle.ensures.same refl refl refl)
    (sym (c.unrenewable.ensures.why w past stands) ∙ c.in_default.is)
    (c.in_err-cut_in_renewal.ensures (client_opening w) (entries w past) (sym (c.count-servers.ensures.value ∙ stands.number)) stands.client_is))
