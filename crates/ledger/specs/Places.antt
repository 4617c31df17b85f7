-- A ledger: what each block of a place has to hold.
use Rattle.std.specs.Prelude.{ℕ, Bool, List, [], filter, length, map, replicate, slice_index_or, slice_set}
use Rattle.std.specs.List.{range_with_len}
use Rattle.fc_base.specs.declared.record.JobParts.{JobParts}
use Rattle.recheck.specs.Expected.{Expected}
use Rattle.ledger.specs.declared.entry.RunWrite.{RunWrite}
use Rattle.recheck.specs.declared.verdict.Verdict.{Verdict}
use Rattle.ledger.specs.Entries.{asks, is_held, behind_run, behind_lost_run, behind_check, is_fault, verdict}

-- What is known of a place: how many bytes a block has, and the entry of each.
pub record Place : Type 0 where
  pub bs : ℕ
  pub entries : List (List RunWrite)

-- A place of so many blocks of this size, of which nothing is asked.
abbrev pub empty : ℕ → ℕ → Place
empty bs blocks = record { bs = bs; entries = replicate blocks [] }

-- The entry of a block. One past the last has none.
abbrev pub entry_of : Place → ℕ → List RunWrite
entry_of place block = slice_index_or place.entries block []

-- The blocks of a place.
abbrev pub blocks_of : Place → List ℕ
blocks_of place = range_with_len 0 (length place.entries)

-- A place with the entry of each block changed so.
abbrev pub with_each : (ℕ → List RunWrite → List RunWrite) → Place → Place
with_each change place =
    record place { entries = map (λ block. change block (entry_of place block)) (blocks_of place) }

-- What is known behind a run, by what a check of it would go by.
abbrev pub after_run : Expected → Place → Place
after_run e place = with_each (behind_run e) place

-- What is known behind a run of this job whose state was lost.
abbrev pub after_lost_run : JobParts → Place → Place
after_lost_run job place = with_each (behind_lost_run job) place

-- What is known behind a check that found this in the blocks.
abbrev pub after_check : (ℕ → List ℕ) → Place → Place
after_check held place = with_each (behind_check held) place

-- A block is checked where its entry asks for something.
abbrev pub is_checked : Place → ℕ → Bool
is_checked place block = asks (entry_of place block)

-- A block is lost where it holds nothing that its entry asks for.
abbrev pub is_lost : Place → (ℕ → List ℕ) → ℕ → Bool
is_lost place held block = is_fault held block (entry_of place block)

-- What is found at a block that holds these bytes.
abbrev pub verdict_at : Place → ℕ → List ℕ → Verdict
verdict_at place block bytes = verdict block bytes (entry_of place block)

-- What is known once a block was checked that holds these bytes: its entry is those of its writes
-- that it holds.
abbrev pub with_block_checked : Place → ℕ → List ℕ → Place
with_block_checked place block bytes =
    record place {
      entries = slice_set place.entries block (filter (is_held block bytes) (entry_of place block));
    }
