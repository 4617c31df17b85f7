-- The words that an order draws ahead.
use Rattle.std.specs.Prelude.{ℕ, ◌+◌}
use Rattle.write_order.specs.declared.words.Words.{Words}
use Rattle.write_order.specs.Words.{state_after, four_words}

-- After n words the next four are there, and the generator has given them already.
abbrev pub words_after : ℕ → ℕ → Words
words_after seed n = record { next = four_words seed n; generator = state_after seed (n + 4) }
