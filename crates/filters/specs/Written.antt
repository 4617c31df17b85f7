-- What a filter has written.
use Rattle.std.specs.Prelude.{◌≡◌, ℕ, Bool, true, false, List, ◌++◌, Option}
use Rattle.std.specs.Borrow.{GName}
use Rattle.std.specs.Io.KnownBytes.{Appends, Keeps}

-- A front of these bytes was written.
pub record AppendsFront (old new : Option (List ℕ)) (bytes : List ℕ) : Type 0 where
  pub front : List ℕ
  pub rest : List ℕ
  pub all : bytes ≡ front ++ rest
  pub written : Appends old new front

-- An output at some moment: its writer, what that holds, where it is known, and whether a write has
-- failed.
pub record Written : Type 0 where
  pub writer : GName
  pub bytes : Option (List ℕ)
  pub failed : Bool

-- Bytes are written, by whether a write had failed before, and has by now: all of them; a front of
-- them; or nothing, once one has failed.
abbrev pub PutsBy : Bool → Bool → Option (List ℕ) → Option (List ℕ) → List ℕ → Type 0
PutsBy false false old new bytes = Appends old new bytes
PutsBy false true old new bytes = AppendsFront old new bytes
PutsBy true true old new bytes = Keeps old new
PutsBy true false old new bytes = ⊥

-- Bytes are written to an output.
abbrev pub Puts : Written → Written → List ℕ → Type 0
Puts old new bytes =
    (new.writer ≡ old.writer) × PutsBy old.failed new.failed old.bytes new.bytes bytes
