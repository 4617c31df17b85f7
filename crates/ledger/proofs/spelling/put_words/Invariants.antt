use Rattle.std.proofs.Common.{◌≡◌, ◌++◌, take}
use Rattle.verify_state.specs.Spelling.{words}
use Rattle.ledger.proofs.spelling.put_words.Given as goal

abbrev pub invariant-loop-number : goal.invariant-loop-number
invariant-loop-number l = l.out.items ≡ l.fn.out.items ++ words (take l.number-index l.numbers)
