-- Which sectors of a block land.
use Rattle.std.specs.Prelude.{ℕ, ◌<◌, Bool, true, IsTrue}
use Rattle.disk_model.specs.File.{has_bit}
use Rattle.disk_model.specs.declared.picks.Picks.{Picks}
use Rattle.disk_model.specs.declared.picks.Picks.TheVariants.{All, Masked}

-- All sectors land, or those whose bit a mask has.
abbrev pub is_picked : Picks → ℕ → Bool
is_picked All i = true
is_picked (Masked mask) i = has_bit mask i

-- One of so many sectors is picked.
abbrev pub HasPick : Picks → ℕ → Type 0
HasPick picks count = (i : ℕ) × (i < count) × IsTrue (is_picked picks i)

-- One of so many bits is set.
abbrev pub HasBitBelow : ℕ → ℕ → Type 0
HasBitBelow mask count = (i : ℕ) × (i < count) × IsTrue (has_bit mask i)
