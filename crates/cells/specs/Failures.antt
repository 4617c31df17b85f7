-- How often the device of a node's note has failed, as an answer tells it.
use Rattle.std.specs.Prelude.{◌≡◌, ◌<◌, ◌||◌, ◌&&◌, ℕ, Bool, true, false, Result, Ok, Err}
use Rattle.fc_base.specs.declared.fault.Fault.{Fault}
use Rattle.fc_base.specs.declared.fault.Fault.TheVariants.{LoadFault}
use Rattle.fc_base.specs.Fault.{sort_of}
use Rattle.cells.specs.AtHub.{is_save}

-- A fault says that a load failed.
abbrev pub is_load : Fault → Bool
is_load LoadFault = true
is_load _ = false

-- The device has failed: a save did, or a load, where what was asked loads the note.
abbrev pub is_device : Bool → Fault → Bool
is_device loads fault = is_save (sort_of fault) || (is_load fault && loads)

-- The count of failures has risen, or it is what it was.
abbrev pub CountsBy : Bool → ℕ → ℕ → Type 0
CountsBy true old new = old < new
CountsBy false old new = new ≡ old

-- A fault of the device has raised the count of its failures, and any other leaves it.
abbrev pub Counts : {X : Type 0} → Bool → ℕ → ℕ → Result X Fault → Type 0
Counts loads old new (Ok x) = Unit {0}
Counts loads old new (Err fault) = CountsBy (is_device loads fault) old new
