-- The place of a job's generator.
use Rattle.std.specs.Prelude.{ℕ, List}
use Rattle.fc_base.specs.declared.record.JobParts.{JobParts}
use Rattle.fc_base.specs.declared.record.Kind.{Kind}
use Rattle.fc_base.specs.declared.record.Kind.TheVariants.{Sequential, RandomMap, RandomFree}
use Rattle.write_order.specs.Words.{four_words}

-- How many words n writes use: a random order takes one a write, the sequential one none.
abbrev pub words_used : Kind → ℕ → ℕ
words_used Sequential n = 0
words_used RandomMap n = n
words_used RandomFree n = n

-- The place after n writes: the four words that the generator gives next.
abbrev pub place : JobParts → ℕ → List ℕ
place job n = four_words job.seed (words_used job.kind n)
