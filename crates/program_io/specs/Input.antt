-- What a bounded read of an input gives.
use Rattle.std.specs.Prelude.{◌≡◌, ℕ, ◌<◌, ◌≤◌, List, length, Option, Some}
use Rattle.std.specs.Io.KnownBytes.{Consumes, IsAtEnd}

-- These bytes are the next of the input, at most so many, and all that are left where they are
-- fewer.
pub record IsRead (bound : ℕ) (old new : Option (List ℕ)) (bytes : List ℕ) : Type 0 where
  pub bounded : length bytes ≤ bound
  pub taken : Consumes old new bytes
  pub whole : length bytes < bound → IsAtEnd new

-- The input has lost at most so many of its next bytes.
pub record HasRead (bound : ℕ) (old new : Option (List ℕ)) : Type 0 where
  pub bytes : List ℕ
  pub few : length bytes ≤ bound
  pub taken : Consumes old new bytes

-- Fewer bytes than the bound are all that there are.
abbrev pub ShortReadsAreWhole : Type 0
ShortReadsAreWhole =
    (bound : ℕ) (input : List ℕ) (new : Option (List ℕ)) (bytes : List ℕ) →
    IsRead bound (Some input) new bytes →
    length bytes < bound → bytes ≡ input

-- No more bytes are read than there are.
abbrev pub ReadsAreFronts : Type 0
ReadsAreFronts =
    (bound : ℕ) (input : List ℕ) (new : Option (List ℕ)) (bytes : List ℕ) →
    IsRead bound (Some input) new bytes →
    length bytes ≤ length input
