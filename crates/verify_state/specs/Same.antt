-- Whether two states are the same, as a test.
use Rattle.std.specs.Prelude.{Bool, ◌&&◌, ◌==◌, bytes_eq}
use Rattle.fc_base.specs.declared.record.JobParts.{JobParts}
use Rattle.fc_base.specs.Keys.{is_same_key}
use Rattle.verify_state.specs.Codes.{kind_code, verify_code}
use Rattle.verify_state.specs.State.{State}

-- Two jobs have the same order of blocks, and write the same: stamps, or one pattern.
abbrev pub is_of_kind : JobParts → JobParts → Bool
is_of_kind a b =
    (kind_code a.kind == kind_code b.kind) && (verify_code a.verify == verify_code b.verify)
    && (a.pattern == b.pattern)

-- As many writes go to the same blocks.
abbrev pub is_of_region : JobParts → JobParts → Bool
is_of_region a b =
    (a.bs == b.bs) && (a.blocks == b.blocks) && (a.total == b.total) && (a.seed == b.seed)

-- The settings of two jobs are equal.
abbrev pub is_same_job : JobParts → JobParts → Bool
is_same_job a b =
    is_of_kind a b && is_of_region a b && ((a.depth == b.depth) && (a.window == b.window))

-- Key, settings, number issued, place and counted writes of two states are equal.
unfoldable pub is_same : State → State → Bool
is_same a b =
    is_same_key a.key b.key && is_same_job a.job b.job
    && ((a.issued == b.issued) && bytes_eq a.place b.place && bytes_eq a.counted b.counted)
