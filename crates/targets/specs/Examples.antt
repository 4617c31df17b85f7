-- Three writes to one block, one after the other, which can be followed by hand.
use Rattle.std.specs.Prelude.{ℕ, List, [], ◌∷◌}
use Rattle.fc_base.specs.declared.record.Kind.TheVariants.{Sequential}
use Rattle.fc_base.specs.declared.record.Verify.TheVariants.{Stamp}
use Rattle.write_order.specs.Stamps.{written_bytes}
use Rattle.engine.specs.History.{Event, issue, done}
use Rattle.engine.specs.Running.{Origin}
use Rattle.engine.specs.Taken.{state_after}
use Rattle.targets.specs.declared.notice.Notice.TheVariants.{Done, Take}
use Rattle.targets.specs.declared.tour_word.TourWord.{TourWord}
use Rattle.targets.specs.declared.tour_word.TourWord.TheVariants.{Begin, Told}
use Rattle.targets.specs.Orders.{order_bytes}
use Rattle.targets.specs.Jobs.{key_of}
use Rattle.targets.specs.Tours.{Piece, order, state}

-- Three writes to one block come from job 0 of run 1.
abbrev pub three_writes : Origin
three_writes = record {
  boot = 0;
  key = record { run = 1; server = 0; job = 0 };
  job = record {
    kind = Sequential;
    verify = Stamp;
    pattern = 0;
    bs = 512;
    blocks = 1;
    total = 3;
    seed = 1;
    depth = 1;
    window = 1;
  };
}

-- Write 0 was told as done.
abbrev pub one_told : List Event
one_told = issue 1 ∷ done 0 ∷ issue 0 ∷ []

-- Writes 0 and 1 were told as done.
abbrev pub two_told : List Event
two_told = issue 2 ∷ done 1 ∷ one_told

-- The block holds what write k puts there.
abbrev pub holds_write : ℕ → ℕ → List ℕ
holds_write k block = written_bytes three_writes.key three_writes.job k block

-- Two tiles of that job, as runs 1 and 2, whose words interleave: write 0 of tile 0 was told as done
-- once both were begun, and then tile 0 was taken. The last word stands first.
abbrev pub two_tiles : List TourWord
two_tiles = Told 0 Take ∷ Told 0 (Done 0) ∷ Begin 1 2 ∷ Begin 0 1 ∷ []

-- The order of write k of tile 0, as run 1.
abbrev pub order_of_first : ℕ → Piece
order_of_first k = order 0 (order_bytes three_writes.key three_writes.job k)

-- What is written of the two: of tile 0 two orders and the state that counts write 0; of tile 1 one
-- order, between them.
abbrev pub two_tiles_written : List Piece
two_tiles_written =
    order_of_first 0 ∷ order 1 (order_bytes (key_of 2 0) three_writes.job 0) ∷ order_of_first 1
    ∷ state 0 (state_after three_writes one_told) ∷ []
