-- The state of the one job is one.
use Rattle.std.proofs.Common.{◌<◌, ◌^◌, refl, arith}
use Rattle.std.proofs.lemmas.Bool.{ltb-true}
use Rattle.rand_core.specs.Steps.{u32_at, stream_of, word_bytes}
use Rattle.rand_core.specs.Stream.{fill_bytes}
use Rattle.fc_base.specs.Marks.{word_of, is_marked, ends_by}
use Rattle.write_order.specs.Words.{word, state_after}
use Rattle.verify_state.specs.State.{IsState, has_come_by}
use Rattle.uses.specs.OneJob.{state}

pub word_0 : word 1 0 < 2 ^ 64
unfolding word state_after u32_at stream_of word_bytes fill_bytes
word_0 = ltb-true (word 1 0) (2 ^ 64) refl

pub word_1 : word 1 1 < 2 ^ 64
unfolding word state_after u32_at stream_of word_bytes fill_bytes
word_1 = ltb-true (word 1 1) (2 ^ 64) refl

pub word_2 : word 1 2 < 2 ^ 64
unfolding word state_after u32_at stream_of word_bytes fill_bytes
word_2 = ltb-true (word 1 2) (2 ^ 64) refl

pub word_3 : word 1 3 < 2 ^ 64
unfolding word state_after u32_at stream_of word_bytes fill_bytes
word_3 = ltb-true (word 1 3) (2 ^ 64) refl

pub is_state : IsState state
unfolding word_of is_marked ends_by has_come_by
is_state = record {
  key = refl;
  run = omega arith;
  limits = refl;
  seed = omega arith;
  pattern = omega arith;
  words = refl;
  word = (word_0, (word_1, (word_2, (word_3, tt))));
  come = refl;
  counted = refl;
}
