use Rattle.std.proofs.Common.{◌≡◌, ◌+◌, length, arith}
use Rattle.fc_base.specs.Marks.{floor_of, marked_count, counted_by}
use Rattle.fc_base.specs.CountLaws.{length_counted_by, few_counted}
use Rattle.verify_state.proofs.counting.completed.Goals as goal

sum_is : (c : goal.After-from) → c.floor_of.result + c.from.result ≡ length (counted_by c.args.window c.args.issued c.args.marks.now)
sum_is c =
    let same : length (counted_by c.args.window c.args.issued c.words-words.result) ≡ floor_of c.args.window c.args.issued + marked_count c.words-words.result =
    length_counted_by c.args.window c.args.issued c.words-words.result c.requires.narrow c.words-words.ensures.four c.words-words.ensures.range
    (rw c.words-words.ensures.value c.requires.ends) in
    let here = rw c.words-words.ensures.value at same in
    omega (arith, here, c.floor_of.ensures.value, c.from.ensures, c.count.ensures.value)

pub overflow_add-result : goal.overflow_add-result
overflow_add-result c = omega (arith, sum_is c, few_counted c.args.window c.args.issued c.args.marks.now, c.ranges.issued.fits)

pub returns : goal.returns
returns c = sum_is c
