-- What comes of a command in a world.
use Rattle.std.specs.Prelude.{◌≡◌, ℕ, false, ◌∷◌, List, Option}
use Rattle.std.specs.List.{flat_map}
use Rattle.std.specs.Io.KnownBytes.{Appends}
use Rattle.fc_base.specs.declared.fault.Fault.TheVariants.{NoMemory}
use Rattle.fc_base.specs.declared.fault.FaultSort.{FaultSort}
use Rattle.fc_base.specs.declared.fault.FaultSort.TheVariants as sorts
use Rattle.net_world.specs.Setup.{Setup}
use Rattle.net_world.specs.declared.world.World.{World}
use Rattle.net_world.specs.Happenings.{Happening}
use Rattle.net_world.specs.Stands.{StandsFor}
use Rattle.net_world.specs.World.{world}
use Rattle.net_script.specs.declared.running.commands.Ran.{Ran}
use Rattle.net_script.specs.declared.running.commands.Ran.TheVariants.{Answered, Lacked}
use Rattle.program_io.specs.Words.{with_line_feed}
use Rattle.net_script.specs.Printed.{lines_at, refusal_line}
use Rattle.net_script.specs.Script.{finds_fault}

-- What has come of this happening behind those before it: its lines are written, and the world
-- stands for the list with it; or memory ran out, which one line says.
abbrev pub HasCome : Setup → List Happening → Happening → World → Option (List ℕ) → Option (List ℕ)
    → Ran → Type 0
HasCome setup before e new old_text new_text (Answered faults) =
    Appends old_text new_text (flat_map with_line_feed (lines_at setup (world setup before) e))
    × StandsFor setup (world setup (e ∷ before)) new
    × (faults ≡ finds_fault setup before e)
HasCome setup before e new old_text new_text Lacked =
    Appends old_text new_text (with_line_feed (refusal_line NoMemory))

-- What comes of a command that is refused, by the sort of the fault.
abbrev pub refused_by : FaultSort → Ran
refused_by sorts.Memory = Lacked
refused_by sorts.Save = Answered false
refused_by sorts.Refusal = Answered false
