-- A job that can be followed by hand.
use Rattle.fc_base.specs.declared.record.JobParts.{JobParts}
use Rattle.fc_base.specs.declared.record.Kind.TheVariants.{Sequential}
use Rattle.fc_base.specs.declared.record.Verify.TheVariants.{Pattern}
use Rattle.engine.specs.Running.{Origin}

-- Three writes to two blocks, in order, all of which may be in flight.
abbrev pub three_writes : JobParts
three_writes = record {
  kind = Sequential;
  verify = Pattern;
  pattern = 7;
  bs = 512;
  blocks = 2;
  total = 3;
  seed = 1;
  depth = 3;
  window = 3;
}

-- Three writes come from job 0 of run 1 at server 0, in boot 1.
abbrev pub first_run : Origin
first_run = record { boot = 1; key = record { run = 1; server = 0; job = 0 }; job = three_writes }
