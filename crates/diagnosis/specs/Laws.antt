-- What holds of what blocks hold.
use Rattle.std.specs.Prelude.{◌≡◌, ◌↔◌, ◌<◌, ℕ, Bool, true, false, List, Option, Some, None, IsTrue, IfSome, length, slice_index}
use Rattle.fc_base.specs.declared.numbers.Key.{Key}
use Rattle.fc_base.specs.declared.record.JobParts.{JobParts}
use Rattle.fc_base.specs.declared.record.Verify.TheVariants as verifies
use Rattle.fc_base.specs.JobParts.{is_within_limits}
use Rattle.write_order.specs.Laws.{StampFields}
use Rattle.write_order.specs.Stamps.{written_bytes}
use Rattle.write_order.specs.Blocks.{block_of}
use Rattle.verify_state.specs.State.{State}
use Rattle.recheck.specs.Expected.{Expected, expected_by, issued_in}
use Rattle.recheck.specs.Laws.{IsLastCompleted}
use Rattle.diagnosis.specs.declared.holds.Holds.{Holds}
use Rattle.diagnosis.specs.declared.holds.Holds.TheVariants as kinds
use Rattle.diagnosis.specs.declared.piece.Piece.TheVariants as pieces
use Rattle.diagnosis.specs.declared.stamp.Stamp.{Stamp}
use Rattle.diagnosis.specs.declared.stamp.Write.{Write}
use Rattle.diagnosis.specs.Sectors.{Says, fields_of}
use Rattle.diagnosis.specs.Damage.{is_near_expected}
use Rattle.diagnosis.specs.Held.{own_write}
use Rattle.diagnosis.specs.Kinds.{BlockHolds}
use Rattle.diagnosis.specs.Limits.{can_be}
use Rattle.diagnosis.specs.Pieces.{piece_of}

-- A sector says at most one thing.
abbrev pub SectorsSayOneThing : Type 0
SectorsSayOneThing = (sector : List ℕ) (a b : StampFields) → Says sector a → Says sector b → a ≡ b

-- A block holds one kind at most.
abbrev pub EachBlockHoldsOneKind : Type 0
EachBlockHoldsOneKind =
    (e : Expected) → IsTrue (is_within_limits e.job) → (block : ℕ) (bytes : List ℕ) →
    length bytes ≡ e.job.bs → (a b : Holds) →
    BlockHolds e block bytes a → BlockHolds e block bytes b → a ≡ b

-- The write that a kind names, if it names one.
abbrev pub named_write : Expected → ℕ → Holds → Option Write
named_write e block (kinds.Lost k) = Some (own_write e block k)
named_write e block (kinds.Unissued k) = Some (own_write e block k)
named_write e block (kinds.OtherRun write) = Some write
named_write e block (kinds.Misdirected write) = Some write
named_write e block _ = None

-- Where a write is named, the block holds the bytes of that write: so it is told as misdirected
-- from another block only where it holds a write to that block.
abbrev pub NamedWritesAreHeld : Type 0
NamedWritesAreHeld =
    (e : Expected) (block : ℕ) (bytes : List ℕ) (kind : Holds) → BlockHolds e block bytes kind →
    IfSome (named_write e block kind)
    (λ write. bytes ≡ written_bytes write.key e.job write.seq write.block)

-- A sector is told as a stamp where it says what that stamp does, and that one can be; and nowhere
-- else.
abbrev pub PiecesSay : Type 0
PiecesSay =
    (e : Expected) → e.job.verify ≡ verifies.Stamp → (sector : List ℕ) → length sector ≡ 512 →
    ((i : ℕ) → slice_index sector i < 256) → (stamp : Stamp) →
    (piece_of e sector ≡ pieces.Stamp stamp)
    ↔ (Says sector (fields_of stamp) × IsTrue (can_be e stamp))

-- A write that is told as lost is older than the last one that has completed to the block.
abbrev pub LostWritesAreOlder : Type 0
LostWritesAreOlder =
    (key : Key) (job : JobParts) (state : Option State) (block : ℕ) (bytes : List ℕ) (k : ℕ) →
    block < job.blocks → BlockHolds (expected_by key job state) block bytes (kinds.Lost k) →
    (last : ℕ) × (IsLastCompleted job state block last × (k < last))

-- A write that is told as unissued was none of those that were issued to the block.
abbrev pub UnissuedWritesWereNotIssued : Type 0
UnissuedWritesWereNotIssued =
    (key : Key) (job : JobParts) (state : Option State) (block : ℕ) (bytes : List ℕ) (k : ℕ) →
    block < job.blocks → BlockHolds (expected_by key job state) block bytes (kinds.Unissued k) →
    k < issued_in job state → block_of job k ≡ block → ⊥

-- A block is told as a write that was never issued, or as one of another run, job, server or block.
abbrev pub is_another_write : Holds → Bool
is_another_write (kinds.Unissued k) = true
is_another_write (kinds.OtherRun write) = true
is_another_write (kinds.Misdirected write) = true
is_another_write _ = false

-- A block of one sector is told so only where it differs in more than a few bits from each write
-- that it may hold.
abbrev pub OtherWritesAreFar : Type 0
OtherWritesAreFar =
    (e : Expected) → e.job.bs ≡ 512 → (block : ℕ) (bytes : List ℕ) (kind : Holds) →
    IsTrue (is_another_write kind) → BlockHolds e block bytes kind →
    is_near_expected e block bytes ≡ false
