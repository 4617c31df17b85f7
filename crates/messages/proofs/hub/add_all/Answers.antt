use Rattle.std.proofs.Common.{arith}
use Rattle.std.proofs.lemmas.Option.{slice_get_within}
use Rattle.messages.proofs.NoteLemmas.{next_bytes, next_length, next_spelled, noted_more}
use Rattle.messages.proofs.hub.add_all.Goals as goal

pub add-requires-clause-frames : goal.add-requires-clause-frames
add-requires-clause-frames c = omega (arith, c.loop-frame.invariant.more, next_length c.args.sent.now c.loop-frame.i c.in-Some.frame.now c.in-Some.ensures)

pub add-requires-clause-waiting : goal.add-requires-clause-waiting
add-requires-clause-waiting c = omega (arith, c.loop-frame.invariant.waiting, next_length c.args.sent.now c.loop-frame.i c.in-Some.frame.now c.in-Some.ensures)

pub add-requires-clause-bytes : goal.add-requires-clause-bytes
add-requires-clause-bytes c = omega (arith, c.loop-frame.invariant.bytes, next_bytes c.args.sent.now c.loop-frame.i c.in-Some.frame.now c.in-Some.ensures)

pub add-requires-clause-spelled : goal.add-requires-clause-spelled
add-requires-clause-spelled c = next_spelled c.args.sent.now c.loop-frame.i c.in-Some.frame.now c.in-Some.ensures c.requires.spelled

pub overflow_add-i : goal.overflow_add-i
overflow_add-i c = omega (arith, slice_get_within c.args.sent.now c.loop-frame.i c.in-Some.frame.now c.in-Some.ensures, c.requires.fits)

pub loop-frame-smaller : goal.loop-frame-smaller
loop-frame-smaller c = omega (arith, slice_get_within c.args.sent.now c.loop-frame.i c.in-Some.frame.now c.in-Some.ensures)

pub loop-frame-preserved : goal.loop-frame-preserved
loop-frame-preserved c =
    noted_more c.args.sent.now c.loop-frame.i c.args.store.now c.args.queues.now c.loop-frame.store c.loop-frame.queues c.add.new.store c.add.new.queues
    c.in-Some.frame.now
    c.loop-frame.invariant c.in-Some.ensures c.add.ensures.frames c.add.ensures.more c.add.ensures.waiting c.add.ensures.bytes c.add.ensures.kept
