-- What a block has to hold, by the runs that were ordered at its place and the checks of it. An
-- entry is the writes of which the block has to hold one; an empty one asks for nothing.
use Rattle.std.specs.Prelude.{ℕ, Bool, true, false, not, ◌==◌, List, [], ◌∷◌, ◌++◌, filter, map, Option, Some, None, if◌then◌else◌}
use Rattle.std.specs.List.{list_any}
use Rattle.std.specs.Str.{bytes_eq}
use Rattle.fc_base.specs.declared.record.JobParts.{JobParts}
use Rattle.fc_base.specs.Counted.{numbers_below}
use Rattle.write_order.specs.Blocks.{block_of}
use Rattle.write_order.specs.Stamps.{written_bytes}
use Rattle.recheck.specs.declared.verdict.Verdict.{Verdict}
use Rattle.recheck.specs.declared.verdict.Verdict.TheVariants as verdicts
use Rattle.recheck.specs.Expected.{Expected}
use Rattle.recheck.specs.Faults.{last_write, writes_to}
use Rattle.ledger.specs.declared.entry.RunWrite.{RunWrite}

-- Write k of the run that a check goes by.
abbrev pub write_of : Expected → ℕ → RunWrite
write_of e k = record { key = e.key; job = e.job; seq = k }

-- A block that holds these bytes holds this write.
abbrev pub is_held : ℕ → List ℕ → RunWrite → Bool
is_held block bytes w = bytes_eq bytes (written_bytes w.key w.job w.seq block)

-- The entry behind a run, by its last completed write to the block and those in flight to it: where
-- none has completed, what the block had to hold before, or one in flight; and nothing, where
-- nothing was asked of it.
abbrev pub entry_behind : Option RunWrite → List RunWrite → List RunWrite → List RunWrite
entry_behind (Some w) flying entry = w ∷ flying
entry_behind None flying [] = []
entry_behind None flying (w ∷ ws) = (w ∷ ws) ++ flying

-- The last completed write to a block, as a write of its run.
abbrev pub last_of : Expected → Option ℕ → Option RunWrite
last_of e None = None
last_of e (Some k) = Some (write_of e k)

-- The entry of a block behind the run that a check would go by.
abbrev pub behind_run : Expected → ℕ → List RunWrite → List RunWrite
behind_run e block entry =
    entry_behind (last_of e (last_write e block)) (map (write_of e) (writes_to block e.in_flight))
    entry

-- A job has a write to the block.
abbrev pub may_write : JobParts → ℕ → Bool
may_write job block = list_any (λ k. block_of job k == block) (numbers_below job.total)

-- The entry of a block behind a run whose state was lost: nothing is known of what it may have
-- written.
abbrev pub behind_lost_run : JobParts → ℕ → List RunWrite → List RunWrite
behind_lost_run job block entry = if may_write job block then [] else entry

-- The entry behind a check that came behind a cut or a flush: those of its writes that the block
-- was found to hold. At a fault there is none, so that a loss is told once.
abbrev pub behind_check : (ℕ → List ℕ) → ℕ → List RunWrite → List RunWrite
behind_check held block entry = filter (is_held block (held block)) entry

-- An entry asks for something.
abbrev pub asks : List RunWrite → Bool
asks [] = false
asks (w ∷ ws) = true

-- A block is at fault where its entry asks for something, and it holds none of that.
abbrev pub is_fault : (ℕ → List ℕ) → ℕ → List RunWrite → Bool
is_fault held block [] = false
is_fault held block (w ∷ ws) = not (list_any (is_held block (held block)) (w ∷ ws))

-- What is found at a block that holds these bytes, by its entry.
abbrev pub verdict : ℕ → List ℕ → List RunWrite → Verdict
verdict block bytes entry =
    if asks entry
    then (if list_any (is_held block bytes) entry then verdicts.Good else verdicts.Fault)
    else verdicts.Skipped
