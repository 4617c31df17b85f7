-- A text that comes behind its length.
use Rattle.std.specs.Prelude.{◌≡◌, ◌⊎◌, ◌<◌, ◌^◌, ℕ, ◌+◌, ◌++◌, min, List, length, Option, IfSome, Result, Ok, Err}
use Rattle.std.specs.Int.{w32}
use Rattle.std.specs.Io.KnownBytes.{Consumes, IsAtEnd}
use Rattle.fc_base.specs.Layouts.{bytes_of}
use Rattle.fc_base.specs.declared.fault.Fault.{Fault}
use Rattle.fc_base.specs.declared.fault.Fault.TheVariants as faults

-- A length in four bytes, and a text of this length, or as much of it as shows that it is longer
-- than `most`.
pub record IsText (most : ℕ) (old new : Option (List ℕ)) (text : List ℕ) : Type 0 where
  pub told : ℕ
  pub fits : told < 2 ^ 32
  pub bytes : Consumes old new (bytes_of w32 told ++ text)
  pub is : length text ≡ min told (most + 1)

-- An input ends in the length of a text, or in the text.
abbrev pub IsCutShort : ℕ → List ℕ → Type 0
IsCutShort most input =
    (length input < 4)
    ⊎ ((told : ℕ) × (rest : List ℕ) × (told < 2 ^ 32) × (input ≡ bytes_of w32 told ++ rest)
    × (length rest < min told (most + 1)))

-- Why an input gives no text: it ends too early, a read has failed, or there is no memory.
abbrev pub HasNoText : ℕ → Option (List ℕ) → Fault → Type 0
HasNoText most old faults.EndOfInput = IfSome old (IsCutShort most)
HasNoText most old faults.ReadError = Unit {0}
HasNoText most old faults.NoMemory = Unit {0}
HasNoText most old fault = ⊥

-- A buffer is filled; or there were fewer bytes, and none is left; or a read has failed.
abbrev pub FillsAll : Option (List ℕ) → Option (List ℕ) → List ℕ → Result (Unit {0}) Fault → Type 0
FillsAll old new buffer (Ok _) = Consumes old new buffer
FillsAll old new buffer (Err faults.EndOfInput) =
    (bytes : List ℕ) × Consumes old new bytes × (length bytes < length buffer) × IsAtEnd new
FillsAll old new buffer (Err faults.ReadError) = Unit {0}
FillsAll old new buffer (Err fault) = ⊥
