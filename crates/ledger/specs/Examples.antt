-- Two runs with a check between them, and a loss at rest, which can be followed by hand.
use Rattle.std.specs.Prelude.{ℕ, ◌==◌, List, [], ◌∷◌, replicate, None, if◌then◌else◌}
use Rattle.fc_base.specs.declared.numbers.Key.{Key}
use Rattle.fc_base.specs.declared.record.JobParts.{JobParts}
use Rattle.recheck.specs.Expected.{Expected, expected_by}
use Rattle.recheck.specs.Examples.{first_key, two_writes}
use Rattle.ledger.specs.Places.{Place, empty, after_run, after_check}
use Rattle.ledger.specs.Stories.{Step, ran, checked}

-- Job 0 of run 2.
abbrev pub second_key : Key
second_key = record first_key { run = 2 }

-- One write of eights, to the first of the two blocks.
abbrev pub one_write : JobParts
one_write = record two_writes { pattern = 8; total = 1 }

-- Both blocks hold sevens.
abbrev pub sevens : ℕ → List ℕ
sevens block = replicate 512 7

-- Block 0 holds eights, and block 1 zeros.
abbrev pub eights_and_zeros : ℕ → List ℕ
eights_and_zeros block = replicate 512 (if block == 0 then 8 else 0)

-- Block 0 holds eights, and block 1 sevens.
abbrev pub eights_and_sevens : ℕ → List ℕ
eights_and_sevens block = replicate 512 (if block == 0 then 8 else 7)

-- The run of two writes, and that of one: all have completed.
abbrev pub first_run : Expected
first_run = expected_by first_key two_writes None

abbrev pub second_run : Expected
second_run = expected_by second_key one_write None

-- A run, a check that finds sevens, and another run.
abbrev pub two_runs : Place
two_runs = after_run second_run (after_check sevens (after_run first_run (empty 512 2)))

-- Two runs with a check between them as a story, newest first, in which nothing is lost.
abbrev pub story : List Step
story =
    record { what = ran second_run; content = eights_and_sevens }
    ∷ record { what = checked; content = sevens }
    ∷ record { what = ran first_run; content = sevens } ∷ []
