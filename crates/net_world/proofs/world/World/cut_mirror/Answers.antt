use Rattle.std.proofs.Common.{refl, sym, ◌∙◌, ap, length, List, ℕ}
use Rattle.messages.specs.declared.node.Node.TheVariants.{Mirror}
use Rattle.mirror_core.specs.History as mirror
use Rattle.net_world.specs.Happenings.{Cut}
use Rattle.net_world.specs.Trace.{mirror_opening}
use Rattle.net_world.specs.Frames.{of_mirror}
use Rattle.net_world.specs.Changes.{steps}
use Rattle.net_world.proofs.MetLemmas.{none_added}
use Rattle.net_world.proofs.EndsLemmas.{stops, refuses}
use Rattle.net_world.proofs.MirrorEndsLemmas.{there, is_there, is_off, mirror_kept, plain_ends, cut_plain, still_there}
use Rattle.net_world.proofs.world.World.cut_mirror.Goals as goal

pub returns-then-not-runs : goal.returns-then-not-runs
returns-then-not-runs c w past stands =
    let has = there w past c.args.self.now.mirror.node _ c.in-Some.is stands.mirror_is in
    refuses w past (Cut Mirror) _ _ refl (stops w past (Cut Mirror) _
    (is_off w past has.0 (sym (c.runs.ensures mirror_opening (of_mirror (steps past)) has.1) ∙ c.if-not-runs.true)))
    (mirror_kept w past _ c.args.self.now _ stands
    (still_there c.in-Some.is refl refl (none_added refl) refl refl refl) has.1)

pub returns : goal.returns
returns c w past stands =
    let has = there w past c.args.self.now.mirror.node _ c.in-Some.is stands.mirror_is in
    plain_ends w past (Cut Mirror) mirror.Cut c.cut.new.node c.in-Ok.first c.plain.result c.args.self.now _ stands
    (still_there c.in-Some.is refl refl (none_added c.settle.ensures.same) refl refl refl)
    (c.cut.ensures mirror_opening (of_mirror (steps past)) has.1)
    (cut_plain w past (is_there w past has.0 (sym (c.runs.ensures mirror_opening (of_mirror (steps past)) has.1) ∙ c.if-not-runs.false)))
    (c.in-Ok.ensures.first ∙ ap (λ (fs : List (List ℕ)). length fs) c.settle.ensures.same)
    c.plain.ensures
