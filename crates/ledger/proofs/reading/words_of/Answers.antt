use Rattle.std.proofs.Common.{arith}
use Rattle.ledger.proofs.ReadingLemmas.{words_begun, words_on}
use Rattle.ledger.proofs.reading.words_of.Goals as goal

pub loop-init : goal.loop-init
loop-init c = record {
  room = omega arith;
  way = λ ns fits is. rw (c.in_ok-numbers.ensures.items) (words_begun ns c.args.body.now fits is);
}

pub loop-preserved : goal.loop-preserved
loop-preserved c = record {
  room = omega (arith, c.split_u64-number.ensures.len, c.loop.invariant.room, c.loop-test.true);
  way = λ ns fits is.
      words_on ns c.loop.numbers.items _ c.loop.rest.now c.split_u64-number.result.1.now c.split_u64-number.result.0 _ _ (omega (arith, c.loop-test.true)) (omega (arith, c.loop-test.true))
      c.split_u64-number.ensures.number c.split_u64-number.ensures.rest c.in_ok-push.ensures.items (c.loop.invariant.way ns fits is);
}
