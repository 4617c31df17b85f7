-- How a block is filled with stamps.
use Rattle.std.specs.Prelude.{ℕ, List, ◌++◌, take, drop}
use Rattle.std.specs.Int.{w32, to_be_bytes}

-- A stamp with this number of the sector within the block.
abbrev pub with_number : List ℕ → ℕ → List ℕ
with_number stamp sector = take 32 stamp ++ to_be_bytes w32 sector ++ drop 36 stamp
