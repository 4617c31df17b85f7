use Rattle.messages.specs.Assemblies.{fill}
use Rattle.messages.proofs.Joining.{look_none, look_one}
use Rattle.messages.proofs.places.is_completed.Goals as goal

pub loop-at-init : goal.loop-at-init
loop-at-init c = look_none (fill c.args.piece.now c.args.filled.now) c.args.piece.now.tag.length

pub loop-at-preserved : goal.loop-at-preserved
loop-at-preserved c =
    let q = c.args.piece.now in
    look_one (fill q c.args.filled.now) q.tag.length c.loop-at.at _ c.loop-at.invariant
    (rw (← c.length-length.ensures.value) c.loop-at-test.true) c.in-Some.ensures
