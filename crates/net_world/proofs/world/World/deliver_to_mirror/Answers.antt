use Rattle.std.proofs.Common.{◌∙◌, ap, ◌++◌, length, List, ℕ, refl}
use Rattle.std.proofs.lemmas.Result.{err_from_is_err_and}
use Rattle.net_world.specs.Trace.{mirror_opening}
use Rattle.net_world.specs.Frames.{of_mirror}
use Rattle.net_world.specs.Changes.{steps}
use Rattle.net_world.proofs.MetLemmas.{none_added}
use Rattle.net_world.proofs.MirrorEndsLemmas.{there, heard_ends, unheard_ends, still_there}
use Rattle.net_world.proofs.world.World.deliver_to_mirror.Goals as goal

pub returns : goal.returns
returns c w past number stands is goes =
    heard_ends w past number c.args.frame c.deliver.new.node c.in_ok-frames.frames c.in-Ok.first c.send.result c.args.self.now c.send.new.self stands
    (record {
      has = λ v list h. (there v list c.args.self.now.mirror.node _ c.in-Some.is h.mirror_is).0;
      node_is = ap (λ x. x.mirror.node) c.send.ensures.rest;
      greatest_is = ap (λ x. x.mirror.greatest) c.send.ensures.rest;
      sent_is = c.send.ensures.sent ∙ ap (λ fs. fs ++ c.in_ok-frames.frames) c.settle.ensures.same;
      servers_are = ap (λ x. x.servers) c.send.ensures.rest;
      client_is = ap (λ x. x.client) c.send.ensures.rest;
      files_are = ap (λ x. x.files) c.send.ensures.rest;
    })
    (record { is_sent = is; goes_to = goes })
    (c.in_ok-frames.ensures mirror_opening (of_mirror (steps past)) (there w past c.args.self.now.mirror.node _ c.in-Some.is stands.mirror_is).1)
    (c.in-Ok.ensures.first ∙ ap (λ (fs : List (List ℕ)). length fs) c.settle.ensures.same)
    c.send.ensures.told

pub returns-in_err-frames : goal.returns-in_err-frames
returns-in_err-frames c w past number stands is goes =
    let p = err_from_is_err_and c.from_residual.result c.from_residual.ensures.1 in
    rw (p.1, p.2)
    (unheard_ends w past number c.args.frame c.deliver.new.node c.in_err-frames.field-0.0 c.args.self.now _ stands
    (still_there c.in-Some.is refl refl (none_added c.settle.ensures.same) refl refl refl)
    (record { is_sent = is; goes_to = goes })
    (c.in_err-frames.ensures mirror_opening (of_mirror (steps past)) (there w past c.args.self.now.mirror.node _ c.in-Some.is stands.mirror_is).1))
