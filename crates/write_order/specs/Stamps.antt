-- The bytes of a write.
use Rattle.std.specs.Prelude.{ℕ, ◌+◌, ◌/◌, ◌%◌, List, ◌++◌, map, flat_map, replicate}
use Rattle.std.specs.List.{range_with_len}
use Rattle.std.specs.Int.{w32, w64, to_be_bytes}
use Rattle.fc_base.specs.declared.record.JobParts.{JobParts}
use Rattle.fc_base.specs.declared.record.Verify.{Verify}
use Rattle.fc_base.specs.declared.record.Verify.TheVariants.{Stamp, Pattern}
use Rattle.fc_base.specs.declared.numbers.Key.{Key}
use Rattle.write_order.specs.Blocks.{block_of}

-- This many bytes that count up from a number, modulo 256.
unfoldable pub counting_bytes : ℕ → ℕ → List ℕ
counting_bytes from n = map (λ i. (from + i) % 256) (range_with_len 0 n)

-- A sector of a stamp: run, server, job, the write's number, its block and the sector within the
-- block, each high byte first, and then bytes that count up from the write's number.
unfoldable pub stamped_sector : Key → ℕ → ℕ → ℕ → List ℕ
stamped_sector key k block sector =
    to_be_bytes w64 key.run ++ to_be_bytes w32 key.server ++ to_be_bytes w32 key.job
    ++ to_be_bytes w64 k
    ++ to_be_bytes w64 block ++ to_be_bytes w32 sector ++ counting_bytes k 476

-- What a write into this block puts there: the stamp of each of its sectors, or the pattern in
-- every byte.
abbrev pub written_bytes : Key → JobParts → ℕ → ℕ → List ℕ
written_bytes key job k block = by job.verify
  where
    by : Verify → List ℕ
    by Stamp = flat_map (stamped_sector key k block) (range_with_len 0 (job.bs / 512))
    by Pattern = replicate job.bs job.pattern

-- The bytes of write k: those of its own block.
abbrev pub bytes_of : Key → JobParts → ℕ → List ℕ
bytes_of key job k = written_bytes key job k (block_of job k)
