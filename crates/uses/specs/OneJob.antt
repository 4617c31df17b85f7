-- A job that can be followed by hand, and the state of it that a trigger takes. Nearly all
-- instances are of this job.
use Rattle.std.specs.Prelude.{ℕ, List, [], ◌∷◌, codes}
use Rattle.fc_base.specs.declared.numbers.Key.{Key}
use Rattle.fc_base.specs.declared.record.JobParts.{JobParts}
use Rattle.fc_base.specs.declared.record.Kind.TheVariants.{Sequential}
use Rattle.fc_base.specs.declared.record.Verify.TheVariants.{Stamp}
use Rattle.write_order.specs.Places.{place}
use Rattle.verify_state.specs.State.{State}
use Rattle.engine.specs.History.{Event, issue, done}

-- Job 0 of run 1 at server 0.
abbrev pub key : Key
key = record { run = 1; server = 0; job = 0 }

-- Six writes to two blocks of one sector each: 0, 2 and 4 go to block 0, and the others to block
-- 1.
abbrev pub job : JobParts
job = record {
  kind = Sequential;
  verify = Stamp;
  pattern = 0;
  bs = 512;
  blocks = 2;
  total = 6;
  seed = 1;
  depth = 1;
  window = 1;
}

-- The job file of that job, of 39 bytes.
abbrev pub text : List ℕ
text = codes "[a]\nrw=write\nbs=512\nsize=1k\nio_size=3k\n"

-- The job file that checks it by its state.
abbrev pub reading_text : List ℕ
reading_text = codes "[a]\nrw=read\nbs=512\nsize=1k\nio_size=3k\nverify_state_load=1\n"

-- What happens to the writes of the job up to a trigger, the newest first: writes 0, 1 and 2 are
-- done, and write 3 is in flight.
abbrev pub events : List Event
events = issue 3 ∷ done 2 ∷ issue 2 ∷ done 1 ∷ issue 1 ∷ done 0 ∷ issue 0 ∷ []

-- The state that the trigger takes.
abbrev pub state : State
state = record {
  key = key;
  job = job;
  issued = 4;
  place = place job 4;
  counted = 0 ∷ 1 ∷ 2 ∷ [];
}
