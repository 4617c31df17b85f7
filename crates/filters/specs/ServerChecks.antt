-- What a server's filter makes of the blocks that come to its checks.
use Rattle.std.specs.Prelude.{◌≡◌, ◌⊎◌, ◌<◌, ◌≤◌, ℕ, ◌*◌, ◌==◌, ◌&&◌, nat_lt, Bool, true, false, if◌then◌else◌, List, [], length, take, drop, Option, Some, None, Result, Err}
use Rattle.std.specs.Int.{w32, w64}
use Rattle.fc_base.specs.Layouts.{number_in}
use Rattle.fc_base.specs.declared.fault.Fault.{Fault}
use Rattle.fc_base.specs.declared.fault.Fault.TheVariants.{BadNotice, NotInFlight}
use Rattle.fc_base.specs.declared.limits.TheConstants.{MAX_BLOCKS}
use Rattle.server_core.specs.History.{Opening}
use Rattle.server_core.specs.Answers.{shown_entries, status}
use Rattle.server_core.specs.Hearing.{FrameEntry, packets_heard}
use Rattle.filters.specs.declared.names.BlockName.{BlockName}
use Rattle.filters.specs.declared.names.TheConstants.{BLOCK_NAME}
use Rattle.filters.specs.UnderWay.{UnderWay, report_before, with_blocks}
use Rattle.filters.specs.ServerAt.{ServerAt, Leaves}
use Rattle.filters.specs.ServerTurns.{GoesOn, TellsReport}

-- The block of a check that sixteen bytes name: its attempt in eight, its job in four, and its
-- number in four.
abbrev pub block_in : List ℕ → BlockName
block_in bytes = record {
  attempt = number_in w64 bytes;
  job = number_in w32 (drop 8 bytes);
  block = number_in w32 (drop 4 (drop 8 bytes));
}

-- A check, where it is of the attempt that is named, and wants the block that is named first.
abbrev pub if_named : BlockName → Option UnderWay → Option UnderWay
if_named name None = None
if_named name (Some u) =
    if (u.attempt == name.attempt) && (u.first == name.block) then Some u else None

-- An attempt is that of the open check: a later Verify that is accepted ends the checks of those
-- before, and so does a Start.
abbrev pub is_open_attempt : Opening → List FrameEntry → ℕ → Bool
is_open_attempt opening past a =
    (status opening (shown_entries (packets_heard opening past))).attempt == a

-- The check that is named, where its attempt is the open one.
abbrev pub named : Opening → ServerAt → BlockName → Option UnderWay
named opening at name =
    if is_open_attempt opening at.list name.attempt then if_named name (at.checks name.job)
    else None

-- The check that is named, where its attempt is the open one and there can be such a block.
abbrev pub named_with_block : Opening → ServerAt → BlockName → Option UnderWay
named_with_block opening at name =
    if nat_lt name.block MAX_BLOCKS then named opening at name else None

-- Bytes of this length are the first blocks that a check wants, this many and one at least.
pub record AreWanted (u : UnderWay) (len given : ℕ) : Type 0 where
  pub some : 0 < given
  pub wanted : given ≤ u.count
  pub whole : len ≡ given * u.expected.job.bs

-- What is told isn't taken, for this fault, and nothing changes.
abbrev pub NotTaken : Fault → ServerAt → Result (Unit {0}) Fault → ServerAt → List ℕ → Type 0
NotTaken fault at end now answer = (end ≡ Err fault) × Leaves at [] now answer

-- What is made of blocks that come to this check, if it is one: they are some of the first that it
-- wants, and it goes on with them; or they aren't.
abbrev pub FeedsBy : Option UnderWay → Opening → ServerAt → BlockName → List ℕ
    → Result (Unit {0}) Fault → ServerAt → List ℕ → Type 0
FeedsBy None opening at name bytes end now answer = NotTaken NotInFlight at end now answer
FeedsBy (Some u) opening at name bytes end now answer =
    ((given : ℕ) × AreWanted u (length bytes) given
    × GoesOn opening at name.job (with_blocks u given bytes) end now answer)
    ⊎ (((given : ℕ) → AreWanted u (length bytes) given → ⊥) × NotTaken BadNotice at end now answer)

-- What is made of a body with blocks, by whether it is too short for a name: behind that stand the
-- bytes of the blocks from the named one on.
abbrev pub FeedsIf : Bool → Opening → ServerAt → List ℕ → Result (Unit {0}) Fault → ServerAt
    → List ℕ → Type 0
FeedsIf true opening at body end now answer = NotTaken BadNotice at end now answer
FeedsIf false opening at body end now answer =
    FeedsBy (named opening at (block_in (take BLOCK_NAME body))) opening at
    (block_in (take BLOCK_NAME body))
    (drop BLOCK_NAME body) end now answer

-- What is made of a body with blocks.
abbrev pub Feeds : Opening → ServerAt → List ℕ → Result (Unit {0}) Fault → ServerAt → List ℕ
    → Type 0
Feeds opening at body end now answer =
    FeedsIf (nat_lt (length body) BLOCK_NAME) opening at body end now answer

-- What is made of a block that couldn't be read, which is the first that this check wants: the
-- report of the blocks before it is told.
abbrev pub GivesUpBy : Option UnderWay → Opening → ServerAt → BlockName → Result (Unit {0}) Fault
    → ServerAt → List ℕ → Type 0
GivesUpBy None opening at name end now answer = NotTaken NotInFlight at end now answer
GivesUpBy (Some u) opening at name end now answer =
    TellsReport opening at name.job u (report_before u name.block) end now answer

-- What is made of a body that says that a block couldn't be read, by whether it has the length of a
-- name.
abbrev pub GivesUpIf : Bool → Opening → ServerAt → List ℕ → Result (Unit {0}) Fault → ServerAt
    → List ℕ → Type 0
GivesUpIf false opening at body end now answer = NotTaken BadNotice at end now answer
GivesUpIf true opening at body end now answer =
    GivesUpBy (named_with_block opening at (block_in body)) opening at (block_in body) end now
    answer

-- What is made of a body that says that a block couldn't be read.
abbrev pub GivesUp : Opening → ServerAt → List ℕ → Result (Unit {0}) Fault → ServerAt → List ℕ
    → Type 0
GivesUp opening at body end now answer =
    GivesUpIf (length body == BLOCK_NAME) opening at body end now answer
