use Rattle.std.proofs.Common.{◌≡◌, ◌+◌, arith, sym, length}
use Rattle.fc_base.specs.Counted.{counted}
use Rattle.fc_base.specs.CountLaws.{counted_and_uncounted}
use Rattle.verify_state.proofs.CountLemmas.{length_counted}
use Rattle.verify_state.proofs.counting.listed.Goals as goal

sum_is : (c : goal.After-count_from) → c.floor_of-floor.result + c.count_from.result ≡ length (counted c.args.window c.args.issued c.args.list.now)
sum_is c = rw (c.count_from.ensures, c.floor_of-floor.ensures.value)
    (sym (length_counted c.args.window c.args.issued c.args.list.now c.requires.distinct c.requires.below))

pub overflow_add-result : goal.overflow_add-result
overflow_add-result c =
    omega (arith, sum_is c, counted_and_uncounted c.args.window c.args.issued c.args.list.now, c.ranges.issued.fits)

pub returns : goal.returns
returns c = sum_is c
