use Rattle.messages.specs.Assemblies.{fill}
use Rattle.messages.proofs.Joining.{join_one}
use Rattle.messages.proofs.places.join.Goals as goal

pub loop-at-preserved : goal.loop-at-preserved
loop-at-preserved c =
    let q = c.args.piece.now in
    join_one (fill q c.args.filled.now) q.tag.length c.loop-at.at c.loop-at.bytes.items _ c.extend_from_slice.new.self.items c.loop-at.invariant
    (rw (← c.length-length.ensures.value) c.loop-at-test.true) c.in-Some.ensures c.in_ok-extend_from_slice.ensures.items
