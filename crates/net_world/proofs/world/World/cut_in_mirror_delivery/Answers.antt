use Rattle.std.proofs.Common.{◌∙◌, ap, length, List, ℕ, refl}
use Rattle.std.proofs.lemmas.Result.{err_from_is_err_and}
use Rattle.net_world.specs.Trace.{mirror_opening}
use Rattle.net_world.specs.Frames.{of_mirror}
use Rattle.net_world.specs.Changes.{steps}
use Rattle.net_world.proofs.MetLemmas.{none_added}
use Rattle.net_world.proofs.MirrorEndsLemmas.{there, still_there}
use Rattle.net_world.proofs.MirrorCutEndsLemmas.{cut_ends, uncut_ends}
use Rattle.net_world.proofs.world.World.cut_in_mirror_delivery.Goals as goal

pub returns : goal.returns
returns c w past number stands is goes =
    cut_ends w past c.args.landed number c.args.frame c.cut_in_delivery.new.node c.in-Ok.first c.plain.result c.args.self.now _ stands
    (still_there c.in-Some.is refl refl (none_added c.settle.ensures.same) refl refl refl)
    (record { is_sent = is; goes_to = goes })
    (c.in_ok-cut_in_delivery.ensures mirror_opening (of_mirror (steps past)) (there w past c.args.self.now.mirror.node _ c.in-Some.is stands.mirror_is).1)
    (c.in-Ok.ensures.first ∙ ap (λ (fs : List (List ℕ)). length fs) c.settle.ensures.same)
    c.plain.ensures

pub returns-in_err-cut_in_delivery : goal.returns-in_err-cut_in_delivery
returns-in_err-cut_in_delivery c w past number stands is goes =
    let p = err_from_is_err_and c.from_residual.result c.from_residual.ensures.1 in
    rw (p.1, p.2)
    (uncut_ends w past c.args.landed number c.args.frame c.cut_in_delivery.new.node c.in_err-cut_in_delivery.field-0.0 c.args.self.now _ stands
    (still_there c.in-Some.is refl refl (none_added c.settle.ensures.same) refl refl refl)
    (record { is_sent = is; goes_to = goes })
    (c.in_err-cut_in_delivery.ensures mirror_opening (of_mirror (steps past)) (there w past c.args.self.now.mirror.node _ c.in-Some.is stands.mirror_is).1))
