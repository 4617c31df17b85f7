-- What the sectors of a block hold.
use Rattle.std.specs.Prelude.{ℕ, ◌*◌, ◌==◌, ◌&&◌, Bool, true, false, List, take, drop, filter, length, if◌then◌else◌}
use Rattle.std.specs.List.{range_with_len, list_all}
use Rattle.fc_base.specs.declared.record.Verify.{Verify}
use Rattle.fc_base.specs.declared.record.Verify.TheVariants as verifies
use Rattle.recheck.specs.Expected.{Expected}
use Rattle.diagnosis.specs.declared.piece.Piece.{Piece}
use Rattle.diagnosis.specs.declared.piece.Piece.TheVariants as pieces
use Rattle.diagnosis.specs.Limits.{can_be}
use Rattle.diagnosis.specs.Sectors.{is_stamped, stamp_in}

-- Each of the bytes is this one.
abbrev pub is_all : ℕ → List ℕ → Bool
is_all byte bytes = list_all (λ b. b == byte) bytes

-- A sector says something where it is stamped, with a stamp that can be.
abbrev pub says_something : Expected → List ℕ → Bool
says_something e sector = is_stamped sector && can_be e (stamp_in sector)

-- What a sector holds: zeros, or what a job writes into its sectors, or else nothing that is known.
abbrev pub piece_of : Expected → List ℕ → Piece
piece_of e sector = if is_all 0 sector then pieces.Zeros else by e.job.verify
  where
    by : Verify → Piece
    by verifies.Pattern = if is_all e.job.pattern sector then pieces.Pattern else pieces.Unknown
    by verifies.Stamp =
        if says_something e sector then pieces.Stamp (stamp_in sector) else pieces.Unknown

-- The sector of this number in a block.
abbrev pub sector_of : List ℕ → ℕ → List ℕ
sector_of bytes number = take 512 (drop (number * 512) bytes)

-- What the sector of this number of a block holds.
unfoldable pub piece_at : Expected → List ℕ → ℕ → Piece
piece_at e bytes number = piece_of e (sector_of bytes number)

-- Nothing is known of what it holds.
abbrev pub is_unknown : Piece → Bool
is_unknown pieces.Unknown = true
is_unknown _ = false

-- How many of the first n sectors hold nothing that is known.
abbrev pub unknown_below : Expected → List ℕ → ℕ → ℕ
unknown_below e bytes n =
    length (filter (λ number. is_unknown (piece_at e bytes number)) (range_with_len 0 n))
