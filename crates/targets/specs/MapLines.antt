-- The lines of a map.
use Rattle.std.specs.Prelude.{ℕ, ◌==◌, ◌+◌, ◌-◌, Bool, not, ◌&&◌, ◌||◌, List, [], ◌++◌, Option, Some, None, codes, decimal, if◌then◌else◌}
use Rattle.std.specs.List.{flat_map, range_with_len}
use Rattle.diagnosis.specs.declared.holds.Holds.TheVariants as kinds
use Rattle.diagnosis.specs.declared.stamp.Write.{Write}
use Rattle.recheck.specs.declared.expected.BlockWrites.{BlockWrites}
use Rattle.recheck.specs.Expected.{Expected}
use Rattle.recheck.specs.Faults.{is_checked, last_write}
use Rattle.targets.specs.MapDifferences.{differs_words}
use Rattle.targets.specs.MapSectors.{sectors_words}
use Rattle.targets.specs.declared.block_verdict.BlockVerdict.{BlockVerdict}
use Rattle.targets.specs.declared.block_verdict.BlockVerdict.TheVariants as tolds

-- The word of what is told.
abbrev pub kind_word : BlockVerdict → List ℕ
kind_word tolds.Unchecked = codes "unchecked"
kind_word tolds.Unread = codes "unread"
kind_word tolds.Sound = codes "sound"
kind_word (tolds.Fault kinds.Sound) = codes "sound"
kind_word (tolds.Fault kinds.Unwritten) = codes "unwritten"
kind_word (tolds.Fault (kinds.Filled byte)) = codes "filled"
kind_word (tolds.Fault (kinds.Lost k)) = codes "lost"
kind_word (tolds.Fault (kinds.Unissued k)) = codes "unissued"
kind_word (tolds.Fault (kinds.OtherRun write)) = codes "other-run"
kind_word (tolds.Fault (kinds.Misdirected write)) = codes "misdirected"
kind_word (tolds.Fault kinds.Torn) = codes "torn"
kind_word (tolds.Fault (kinds.Corrupt sectors)) = codes "corrupt"

-- The last completed write, if there is one.
abbrev pub last_words : Option ℕ → List ℕ
last_words None = []
last_words (Some k) = decimal k

-- A write in flight, if it goes to the block.
abbrev pub or_words : ℕ → BlockWrites → List ℕ
or_words block write = if write.block == block then codes " or " ++ decimal write.seq else []

-- The writes that a block may hold: the last completed one, and those in flight to it.
abbrev pub wanted_words : Expected → ℕ → List ℕ
wanted_words e block = last_words (last_write e block) ++ flat_map (or_words block) e.in_flight

-- Which write a block holds, and whose.
abbrev pub write_words : Write → List ℕ
write_words write =
    codes ", holds write " ++ (decimal write.seq ++ (codes " of block " ++ (decimal write.block
    ++ (codes " of job " ++ (decimal write.key.job ++ (codes " of server "
    ++ (decimal write.key.server ++ (codes " of run " ++ decimal write.key.run))))))))

-- Which write of the job to the block it holds.
abbrev pub own_words : ℕ → List ℕ
own_words k = codes ", holds write " ++ decimal k

-- What a block with these bytes holds, where that is more than its kind. Where it holds stamps or a
-- pattern, it is told how it differs from the writes that it may hold, if that is in a few bytes.
abbrev pub held_words : Expected → ℕ → List ℕ → BlockVerdict → List ℕ
held_words e block bytes tolds.Unchecked = []
held_words e block bytes tolds.Unread = []
held_words e block bytes tolds.Sound = []
held_words e block bytes (tolds.Fault kinds.Sound) = []
held_words e block bytes (tolds.Fault kinds.Unwritten) = []
held_words e block bytes (tolds.Fault (kinds.Filled byte)) = codes ", holds byte " ++ decimal byte
held_words e block bytes (tolds.Fault (kinds.Lost k)) = own_words k ++ differs_words e block bytes
held_words e block bytes (tolds.Fault (kinds.Unissued k)) =
    own_words k ++ differs_words e block bytes
held_words e block bytes (tolds.Fault (kinds.OtherRun write)) =
    write_words write ++ differs_words e block bytes
held_words e block bytes (tolds.Fault (kinds.Misdirected write)) =
    write_words write ++ differs_words e block bytes
held_words e block bytes (tolds.Fault kinds.Torn) =
    differs_words e block bytes ++ sectors_words e bytes
held_words e block bytes (tolds.Fault (kinds.Corrupt sectors)) =
    codes ", unknown sectors " ++ (decimal sectors
    ++ (differs_words e block bytes ++ sectors_words e bytes))

-- The line of a block: its number, what is told of it, the writes that it may hold, and what it
-- holds.
abbrev pub line_words : Expected → ℕ → List ℕ → BlockVerdict → List ℕ
line_words e block bytes told =
    codes "block " ++ (decimal block ++ (codes " " ++ (kind_word told ++ (codes ": wants write "
    ++ (wanted_words e block ++ (held_words e block bytes told ++ codes "\n"))))))

-- The line of a block, which has none where it isn't checked or is sound.
abbrev pub line_if_any : Expected → ℕ → List ℕ → BlockVerdict → List ℕ
line_if_any e block bytes tolds.Unchecked = []
line_if_any e block bytes tolds.Sound = []
line_if_any e block bytes tolds.Unread = line_words e block bytes tolds.Unread
line_if_any e block bytes (tolds.Fault kind) = line_words e block bytes (tolds.Fault kind)

-- Unchecked blocks begin at this one: it isn't checked, and the one before it is, or isn't there.
abbrev pub begins_unchecked : (ℕ → Bool) → ℕ → Bool
begins_unchecked checked block = not (checked block) && (block == 0 || checked (block - 1))

-- Unchecked blocks end at this one: it isn't checked, and the one behind it is, or isn't there.
abbrev pub ends_unchecked : (ℕ → Bool) → ℕ → ℕ → Bool
ends_unchecked checked blocks block =
    not (checked block) && (block + 1 == blocks || checked (block + 1))

-- The first and the last block of unchecked ones, as ` 5-9`.
abbrev pub first_words : Bool → ℕ → List ℕ
first_words begins block = if begins then codes " " ++ decimal block else []

abbrev pub last_of_words : Bool → ℕ → List ℕ
last_of_words ends block = if ends then codes "-" ++ decimal block else []

abbrev pub edge_words : (ℕ → Bool) → ℕ → ℕ → List ℕ
edge_words checked blocks block =
    first_words (begins_unchecked checked block) block
    ++ last_of_words (ends_unchecked checked blocks block) block

-- The line of those of so many blocks that aren't checked, as `unchecked 5-9 12-12`.
abbrev pub unchecked_among : (ℕ → Bool) → ℕ → List ℕ
unchecked_among checked blocks =
    codes "unchecked" ++ (flat_map (edge_words checked blocks) (range_with_len 0 blocks) ++ codes "\n")

-- The line of the blocks of the region that aren't checked.
abbrev pub unchecked_line : Expected → List ℕ
unchecked_line e = unchecked_among (is_checked e) e.job.blocks
