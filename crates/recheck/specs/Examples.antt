-- A check that can be followed by hand.
use Rattle.std.specs.Prelude.{ℕ, ◌==◌, List, [], ◌∷◌, replicate, if◌then◌else◌}
use Rattle.fc_base.specs.declared.numbers.Key.{Key}
use Rattle.fc_base.specs.declared.record.JobParts.{JobParts}
use Rattle.fc_base.specs.declared.record.Kind.TheVariants.{Sequential}
use Rattle.fc_base.specs.declared.record.Verify.TheVariants.{Pattern}
use Rattle.verify_state.specs.State.{State}

-- Job 0 of run 1.
abbrev pub first_key : Key
first_key = record { run = 1; server = 0; job = 0 }

-- Two writes of sevens to two blocks.
abbrev pub two_writes : JobParts
two_writes = record {
  kind = Sequential;
  verify = Pattern;
  pattern = 7;
  bs = 512;
  blocks = 2;
  total = 2;
  seed = 1;
  depth = 2;
  window = 2;
}

-- Both were issued, and write 0 alone has completed.
abbrev pub one_done : State
one_done = record { key = first_key; job = two_writes; issued = 2; place = []; counted = 0 ∷ [] }

-- Block 0 holds sevens, and block 1 zeros.
abbrev pub half_written : ℕ → List ℕ
half_written block = replicate 512 (if block == 0 then 7 else 0)
