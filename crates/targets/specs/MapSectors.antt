-- What the sectors of a block hold, extent by extent.
use Rattle.std.specs.Prelude.{ℕ, ◌==◌, ◌+◌, ◌-◌, ◌/◌, Bool, true, false, not, ◌&&◌, ◌||◌, List, [], ◌++◌, codes, decimal, if◌then◌else◌}
use Rattle.std.specs.List.{flat_map, range_with_len}
use Rattle.fc_base.specs.declared.numbers.Key.{Key}
use Rattle.recheck.specs.Expected.{Expected}
use Rattle.diagnosis.specs.declared.piece.Piece.{Piece}
use Rattle.diagnosis.specs.declared.piece.Piece.TheVariants as pieces
use Rattle.diagnosis.specs.declared.stamp.Stamp.{Stamp}
use Rattle.diagnosis.specs.declared.stamp.Write.{Write}
use Rattle.diagnosis.specs.Pieces.{piece_at}

-- Two keys, or two writes, have the same numbers.
abbrev pub is_same_key : Key → Key → Bool
is_same_key a b = a.run == b.run && (a.server == b.server && a.job == b.job)

abbrev pub is_same_write : Write → Write → Bool
is_same_write a b = a.seq == b.seq && (a.block == b.block && is_same_key a.key b.key)

-- The next sector of the same write.
abbrev pub is_next : Stamp → Stamp → Bool
is_next first next = is_same_write first.write next.write && next.sector == first.sector + 1

-- What a sector holds goes on in the next: both are alike, or they are sectors of one write, in
-- their order.
abbrev pub goes_on : Piece → Piece → Bool
goes_on pieces.Zeros pieces.Zeros = true
goes_on pieces.Pattern pieces.Pattern = true
goes_on pieces.Unknown pieces.Unknown = true
goes_on (pieces.Stamp first) (pieces.Stamp next) = is_next first next
goes_on first next = false

-- An extent begins at a sector that the one before it doesn't go on in.
abbrev pub begins_at : Expected → List ℕ → ℕ → Bool
begins_at e bytes n =
    n == 0 || not (goes_on (piece_at e bytes (n - 1)) (piece_at e bytes n))

-- An extent ends at a sector that doesn't go on in the next, or is the last of this many.
abbrev pub ends_at : Expected → List ℕ → ℕ → ℕ → Bool
ends_at e bytes sectors n =
    n + 1 == sectors || not (goes_on (piece_at e bytes n) (piece_at e bytes (n + 1)))

-- What a stamp says: the write, and which of its sectors this is.
abbrev pub stamp_words : Stamp → List ℕ
stamp_words stamp =
    codes "write " ++ (decimal stamp.write.seq ++ (codes " of block " ++ (decimal stamp.write.block
    ++ (codes " of job " ++ (decimal stamp.write.key.job ++ (codes " of server "
    ++ (decimal stamp.write.key.server ++ (codes " of run " ++ (decimal stamp.write.key.run
    ++ (codes " place " ++ decimal stamp.sector))))))))))

abbrev pub piece_words : Piece → List ℕ
piece_words pieces.Zeros = codes "zeros"
piece_words pieces.Pattern = codes "pattern"
piece_words pieces.Unknown = codes "unknown"
piece_words (pieces.Stamp stamp) = stamp_words stamp

-- The first sector of an extent.
abbrev pub begin_words : Expected → List ℕ → ℕ → List ℕ
begin_words e bytes n = if begins_at e bytes n then codes "; " ++ decimal n else []

-- The last sector of an extent, and what that holds; and what is said at a sector, by whether an
-- extent begins and ends there.
abbrev pub last_sector_words : ℕ → Piece → List ℕ
last_sector_words n piece = codes "-" ++ (decimal n ++ (codes " " ++ piece_words piece))

abbrev pub end_words : Expected → List ℕ → ℕ → ℕ → List ℕ
end_words e bytes sectors n =
    if ends_at e bytes sectors n then last_sector_words n (piece_at e bytes n) else []

abbrev pub sector_words : Expected → List ℕ → ℕ → ℕ → List ℕ
sector_words e bytes sectors n = begin_words e bytes n ++ end_words e bytes sectors n

-- All extents of a block, each from its first sector to its last, with what the last one holds.
abbrev pub sectors_words : Expected → List ℕ → List ℕ
sectors_words e bytes =
    flat_map (sector_words e bytes (e.job.bs / 512)) (range_with_len 0 (e.job.bs / 512))
