-- The ranges of a piece.
use Rattle.std.specs.Prelude.{ℕ, ◌+◌, ◌-◌, ◌%◌, Bool, true, false, ◌&&◌, ◌==◌, nat_lt, nat_le, length, min}
use Rattle.fc_base.specs.declared.limits.TheConstants.{MAX_SERVERS}
use Rattle.messages.specs.declared.limits.TheConstants.{CHUNK_LIMIT, MAX_BODY}
use Rattle.messages.specs.declared.kind.PacketKind.{PacketKind}
use Rattle.messages.specs.declared.kind.PacketKind.TheVariants as kinds
use Rattle.messages.specs.declared.piece.Tag.{Tag}
use Rattle.messages.specs.declared.piece.PieceParts.{PieceParts}
use Rattle.messages.specs.Nodes.{is_node}
use Rattle.messages.specs.Ranges.{is_run, is_attempt, is_job}

-- The kinds of bodies that can be longer than 1,024 bytes: in layout 1, states can be as well.
abbrev pub is_long_kind : PacketKind → Bool
is_long_kind kinds.Jobs = true
is_long_kind kinds.State = true
is_long_kind kinds.Verify = true
is_long_kind kinds.Saved = true
is_long_kind _ = false

-- The number of a tag is the attempt of a Verify or a Saved, else 0.
abbrev pub is_number : PacketKind → ℕ → Bool
is_number kinds.Verify number = is_attempt number
is_number kinds.Saved number = is_attempt number
is_number _ number = number == 0

-- The server and the job of a tag are those of the state, else 0.
abbrev pub is_owner : PacketKind → ℕ → ℕ → Bool
is_owner kinds.State server job = nat_lt server MAX_SERVERS && is_job job
is_owner kinds.Saved server job = nat_lt server MAX_SERVERS && is_job job
is_owner _ server job = (server == 0) && (job == 0)

-- A body that is cut has 1,025 to 16,400 bytes.
abbrev pub is_cut_length : ℕ → Bool
is_cut_length len = nat_le (CHUNK_LIMIT + 1) len && nat_le len MAX_BODY

-- The ranges of a tag.
abbrev pub is_tag_in_range : Tag → Bool
is_tag_in_range t =
    is_long_kind t.whole && is_run t.run && is_number t.whole t.number
    && is_owner t.whole t.server t.job && is_cut_length t.length

-- A place is a multiple of 1,024 below the length, and what stands there goes to the next place or
-- to the end.
abbrev pub is_place : ℕ → ℕ → ℕ → Bool
is_place len at count =
    (at % CHUNK_LIMIT == 0) && nat_lt at len && (count == min CHUNK_LIMIT (len - at))

-- The ranges of a piece.
abbrev pub is_piece : PieceParts → Bool
is_piece q = is_node q.from && is_node q.to && is_tag_in_range q.tag && is_place q.tag.length q.at
    (length q.bytes)
