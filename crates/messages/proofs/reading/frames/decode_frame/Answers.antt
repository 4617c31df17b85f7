use Rattle.std.proofs.Common.{arith, refl}
use Rattle.messages.specs.Packets.{header_at}
use Rattle.messages.proofs.DecodeLemmas.{node_in_range}
use Rattle.messages.proofs.FrameReading.{frame_answers, says_frame, short_frame}
use Rattle.messages.proofs.reading.frames.decode_frame.Goals as goal

pub frame_of-requires : goal.frame_of-requires
frame_of-requires c =
    let header = c.in_ok-header.header in
    let told = c.in_ok-header.ensures in
    rw (node_in_range (header_at 4 c.args.bytes.now) header.ends.from told.2, node_in_range (header_at 5 c.args.bytes.now) header.ends.to told.3) refl

pub returns-clause-answer : goal.returns-clause-answer
returns-clause-answer c = frame_answers c.in_ok-header.header c.args.bytes.now c.split_at.result.1.now c.in_ok-header.ensures c.split_at.ensures.back
    c.frame_of.result c.frame_of.ensures

pub returns-clause-said : goal.returns-clause-said
returns-clause-said c =
    says_frame c.only_frames_are_read.ensures c.args.bytes.now (λ i. omega (arith, c.type_inv.bytes i)) c.frame_of.result (returns-clause-answer c)

pub returns-clause-short : goal.returns-clause-short
returns-clause-short c = short_frame c.args.bytes.now c.frame_of.result (returns-clause-said c)
