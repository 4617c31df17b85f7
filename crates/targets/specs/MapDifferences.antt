-- How a faulty block differs from a write that it may hold.
use Rattle.std.specs.Prelude.{ℕ, ◌==◌, ◌/◌, ◌%◌, List, [], ◌++◌, Option, Some, None, nat_le, codes, decimal, if◌then◌else◌}
use Rattle.std.specs.List.{flat_map}
use Rattle.write_order.specs.Stamps.{written_bytes}
use Rattle.diagnosis.specs.declared.difference.Difference.{Difference}
use Rattle.diagnosis.specs.declared.difference.TheConstants.{FEW_BYTES}
use Rattle.diagnosis.specs.Differences.{difference_of}
use Rattle.recheck.specs.declared.expected.BlockWrites.{BlockWrites}
use Rattle.recheck.specs.Expected.{Expected}
use Rattle.recheck.specs.Faults.{last_write}

-- By how many bits a block differs from write k, and the sector and the byte in it where it first
-- does.
abbrev pub place_words : ℕ → ℕ → ℕ → List ℕ
place_words k bits at =
    codes ", differs from write " ++ (decimal k ++ (codes " by bits " ++ (decimal bits
    ++ (codes " first at sector " ++ (decimal (at / 512) ++ (codes " byte " ++ decimal (at % 512)))))))

-- Where it doesn't differ, nothing is told.
abbrev pub apart_words : ℕ → ℕ → Option ℕ → List ℕ
apart_words k bits None = []
apart_words k bits (Some at) = place_words k bits at

-- Nothing is told where more than a few bytes differ, either: then these are other bytes.
abbrev pub few_words : ℕ → Difference → List ℕ
few_words k found = if nat_le found.bytes FEW_BYTES then apart_words k found.bits found.first else []

-- How a block with these bytes differs from write k of the job to it.
abbrev pub differs_from : Expected → ℕ → List ℕ → ℕ → List ℕ
differs_from e block bytes k =
    few_words k (difference_of bytes (written_bytes e.key e.job k block))

-- How it does from the last completed write, if there is one.
abbrev pub differs_from_last : Expected → ℕ → List ℕ → Option ℕ → List ℕ
differs_from_last e block bytes None = []
differs_from_last e block bytes (Some k) = differs_from e block bytes k

-- How it does from a write in flight, if that goes to the block.
abbrev pub differs_from_placed : Expected → ℕ → List ℕ → BlockWrites → List ℕ
differs_from_placed e block bytes write =
    if write.block == block then differs_from e block bytes write.seq else []

-- How it does from the writes that it may hold: the last completed one, and those in flight to it.
abbrev pub differs_words : Expected → ℕ → List ℕ → List ℕ
differs_words e block bytes =
    differs_from_last e block bytes (last_write e block)
    ++ flat_map (differs_from_placed e block bytes) e.in_flight
