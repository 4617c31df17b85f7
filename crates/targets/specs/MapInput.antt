-- The blocks of a target as they come for a map, one behind the other: a byte 1 and the block's
-- bytes, or a byte 0, where it could not be read.
use Rattle.std.specs.Prelude.{◌≡◌, ◌⊎◌, ◌<◌, ℕ, Bool, true, false, List, [], ◌∷◌, length, Option, Some, None, Result, Ok, Err}
use Rattle.std.specs.Io.KnownBytes.{Consumes, IsAtEnd}
use Rattle.fc_base.specs.declared.fault.Fault.{Fault}
use Rattle.fc_base.specs.declared.fault.Fault.TheVariants as faults
use Rattle.targets.specs.declared.map_input.BlockRead.{BlockRead}
use Rattle.targets.specs.declared.map_input.BlockRead.TheVariants as cames

-- The bytes by which a block comes.
abbrev pub block_code : Option (List ℕ) → List ℕ
block_code None = 0 ∷ []
block_code (Some bytes) = 1 ∷ bytes

-- What came of a block of this size isn't the whole of it, and may be nothing.
abbrev pub IsPart : ℕ → List ℕ → Type 0
IsPart size part =
    (part ≡ []) ⊎ ((front : List ℕ) × (part ≡ 1 ∷ front) × (length front < size))

-- The input ends in a block of this size.
abbrev pub EndsInBlock : ℕ → Option (List ℕ) → Option (List ℕ) → Type 0
EndsInBlock size old new = (part : List ℕ) × Consumes old new part × IsPart size part × IsAtEnd new

-- No block comes: a read has failed, or the byte before it is neither 0 nor 1.
abbrev pub NoBlock : Fault → Option (List ℕ) → Option (List ℕ) → Type 0
NoBlock faults.ReadError old new = Unit {0}
NoBlock faults.BadNotice old new = (flag : ℕ) × (1 < flag) × Consumes old new (flag ∷ [])
NoBlock fault old new = ⊥

-- A buffer is filled, or the input ends before that, or a read has failed.
abbrev pub FillsOrEnds : Option (List ℕ) → Option (List ℕ) → List ℕ → Result Bool Fault → Type 0
FillsOrEnds old new buffer (Ok true) = Consumes old new buffer
FillsOrEnds old new buffer (Ok false) =
    (part : List ℕ) × Consumes old new part × (length part < length buffer) × IsAtEnd new
FillsOrEnds old new buffer (Err fault) = fault ≡ faults.ReadError

-- What comes: the bytes of a block, which are in the buffer then; or that it could not be read; or
-- the end.
abbrev pub Comes : Option (List ℕ) → Option (List ℕ) → List ℕ → Result BlockRead Fault → Type 0
Comes old new buffer (Ok cames.Bytes) = Consumes old new (block_code (Some buffer))
Comes old new buffer (Ok cames.Unread) = Consumes old new (block_code None)
Comes old new buffer (Ok cames.End) = EndsInBlock (length buffer) old new
Comes old new buffer (Err fault) = NoBlock fault old new

-- What comes behind a byte 1.
abbrev pub BlockComes : Option (List ℕ) → Option (List ℕ) → List ℕ → Result BlockRead Fault → Type 0
BlockComes old new buffer (Ok cames.Bytes) = Consumes old new buffer
BlockComes old new buffer (Ok cames.Unread) = ⊥
BlockComes old new buffer (Ok cames.End) =
    (part : List ℕ) × Consumes old new part × (length part < length buffer) × IsAtEnd new
BlockComes old new buffer (Err fault) = fault ≡ faults.ReadError
