use Rattle.std.proofs.Common.{◌≡◌, length, arith}
use Rattle.messages.specs.Pieces.{tag_in}
use Rattle.messages.specs.FramesOf.{spelled_piece}
use Rattle.messages.proofs.FramesOfLemmas.{cut_none, cut_one, cut_all}
use Rattle.messages.proofs.frames.cut.Goals as goal

pub loop-at-init : goal.loop-at-init
loop-at-init c =
    let p = c.args.packet.now in
    let b = c.args.body.now in
    cut_none (spelled_piece p.from p.to (tag_in p.body (length b)) b)
    (length b) c.in_ok-ends.ends.items c.in_ok-bytes.bytes.items c.in_ok-ends.ensures.items c.in_ok-bytes.ensures.items

pub loop-at-preserved : goal.loop-at-preserved
loop-at-preserved c =
    let p = c.args.packet.now in
    let b = c.args.body.now in
    let end : c.len.result ≡ length c.put_chunk.new.out.items = omega arith in
    cut_one (spelled_piece p.from p.to (tag_in p.body (length b)) b)
    (length b) c.loop-at.at c.len.result c.loop-at.ends.items c.loop-at.bytes.items c.push.new.self.items c.put_chunk.new.out.items
    c.loop-at.invariant c.loop-at-test.true end c.in_ok-push.ensures.items c.in_ok-put_chunk.ensures

pub returns : goal.returns
returns c =
    let p = c.args.packet.now in
    let b = c.args.body.now in
    cut_all (spelled_piece p.from p.to (tag_in p.body (length b)) b)
    (length b) c.loop-at.at c.loop-at.ends.items c.loop-at.bytes.items c.loop-at.invariant c.loop-at-test.false
