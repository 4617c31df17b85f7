use Rattle.std.proofs.Common.{◌≡◌, ◌++◌, take}
use Rattle.verify_state.specs.Spelling.{words}
use Rattle.verify_state.proofs.writing.put_words.Given as goal

abbrev pub invariant-loop-word : goal.invariant-loop-word
invariant-loop-word l = l.bytes.items ≡ l.initial.bytes.items ++ words (take l.word-index l.words)
