-- A verify state that can be kept, for examples of the nodes that keep states.
use Rattle.std.specs.Prelude.{ℕ, [], ◌∷◌}
use Rattle.fc_base.specs.declared.record.Kind.TheVariants.{Sequential}
use Rattle.fc_base.specs.declared.record.Verify.TheVariants.{Stamp}
use Rattle.verify_state.specs.State.{State}

-- The state of a job of run 1 that has issued so many of its two writes.
abbrev pub state : ℕ → ℕ → State
state job issued = record {
  key = record { run = 1; server = 0; job = job };
  job = record {
    kind = Sequential;
    verify = Stamp;
    pattern = 0;
    bs = 512;
    blocks = 2;
    total = 2;
    seed = 1;
    depth = 2;
    window = 2;
  };
  issued = issued;
  place = 1 ∷ 2 ∷ 3 ∷ 4 ∷ [];
  counted = 0 ∷ [];
}
