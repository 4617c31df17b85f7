use Rattle.std.proofs.Common.{refl, ◌∙◌, ap, length, List, ℕ}
use Rattle.std.proofs.lemmas.Result.{err_from_is_err_and}
use Rattle.client_core.specs.Inputs as inputs
use Rattle.net_world.specs.Trace.{client_opening}
use Rattle.net_world.specs.Happenings.{Begin, CutIn}
use Rattle.net_world.specs.Asking.{entries}
use Rattle.net_world.proofs.AskLemmas.{nothing_sent}
use Rattle.net_world.proofs.ServeLemmas.{settled}
use Rattle.net_world.proofs.ClientCutEndsLemmas.{cut_ends, uncut_ends, cuts_begin}
use Rattle.net_world.proofs.world.World.cut_in_begin.Goals as goal

pub returns-in_default : goal.returns-in_default
returns-in_default c w past stands = (refl, settled w past c.args.self.now _ stands c.settle.ensures.same refl refl refl refl)

pub returns : goal.returns
returns c w past stands =
    cut_ends w past c.args.landed (CutIn c.args.landed (Begin c.args.text.now))
    (inputs.Begin c.args.text.now) c.in-Ok.first c.plain.result c.args.self.now _ stands
    (nothing_sent c.settle.ensures.same refl refl refl)
    (cuts_begin w past c.args.landed c.args.text.now)
    (c.in_ok-cut_in.ensures (client_opening w) (entries w past) stands.client_is)
    (c.in-Ok.ensures.first ∙ ap (λ (fs : List (List ℕ)). length fs) c.settle.ensures.same)
    c.plain.ensures

pub returns-in_err-cut_in : goal.returns-in_err-cut_in
returns-in_err-cut_in c w past stands =
    let p = err_from_is_err_and c.from_residual.result c.from_residual.ensures.1 in
    rw (p.1, p.2)
    (uncut_ends w past c.args.landed (CutIn c.args.landed (Begin c.args.text.now))
    (inputs.Begin c.args.text.now) c.in_err-cut_in.field-0.0 c.args.self.now _ stands
    (nothing_sent c.settle.ensures.same refl refl refl)
    (cuts_begin w past c.args.landed c.args.text.now)
    (c.in_err-cut_in.ensures (client_opening w) (entries w past) stands.client_is))
