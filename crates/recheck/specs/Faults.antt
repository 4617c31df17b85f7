-- Which blocks are checked, what they may hold, and which are faulty. `held` gives the bytes of
-- each block.
use Rattle.std.specs.Prelude.{ℕ, Bool, not, ◌&&◌, ◌==◌, List, [], ◌∷◌, filter, map, Option, Some, None, is_some, slice_index_or, if◌then◌else◌}
use Rattle.std.specs.List.{list_any}
use Rattle.std.specs.Str.{bytes_eq}
use Rattle.write_order.specs.Stamps.{written_bytes}
use Rattle.recheck.specs.declared.expected.BlockWrites.{BlockWrites}
use Rattle.recheck.specs.declared.verdict.Verdict.{Verdict}
use Rattle.recheck.specs.declared.verdict.Verdict.TheVariants as verdicts
use Rattle.recheck.specs.Expected.{Expected}

-- The last completed write to a block.
abbrev pub last_write : Expected → ℕ → Option ℕ
last_write e block = slice_index_or e.last block None

-- A block is checked where some write to it has completed.
abbrev pub is_checked : Expected → ℕ → Bool
is_checked e block = is_some (last_write e block)

-- The numbers of those writes that go to a block.
abbrev pub writes_to : ℕ → List BlockWrites → List ℕ
writes_to block writes = map (λ w. w.seq) (filter (λ w. w.block == block) writes)

-- The writes that a checked block may hold: the last completed one, and those in flight to it.
abbrev pub expected_writes : Expected → ℕ → List ℕ
expected_writes e block = by (last_write e block)
  where
    by : Option ℕ → List ℕ
    by None = []
    by (Some k) = k ∷ writes_to block e.in_flight

-- The bytes are those that a write puts into the block.
abbrev pub is_write : Expected → ℕ → List ℕ → ℕ → Bool
is_write e block bytes k = bytes_eq bytes (written_bytes e.key e.job k block)

-- The bytes are those of an expected write.
abbrev pub is_expected : Expected → ℕ → List ℕ → Bool
is_expected e block bytes = list_any (is_write e block bytes) (expected_writes e block)

-- A fault is a checked block that holds none of its expected writes.
abbrev pub is_fault : Expected → (ℕ → List ℕ) → ℕ → Bool
is_fault e held block = is_checked e block && not (is_expected e block (held block))

-- What is found at a block that holds these bytes.
abbrev pub verdict : Expected → ℕ → List ℕ → Verdict
verdict e block bytes =
    if is_checked e block then (if is_expected e block bytes then verdicts.Good else verdicts.Fault)
    else verdicts.Skipped
