-- How the calls of a world end.
use Rattle.std.specs.Prelude.{◌≡◌, List, Result, Ok, Err}
use Rattle.fc_base.specs.declared.fault.Fault.{Fault}
use Rattle.fc_base.specs.declared.fault.Fault.TheVariants.{NoMemory}
use Rattle.fc_base.specs.declared.fault.FaultSort.{FaultSort}
use Rattle.fc_base.specs.declared.fault.FaultSort.TheVariants as sorts
use Rattle.fc_base.specs.Fault.{sort_of}
use Rattle.net_world.specs.declared.told.Told.{Told}
use Rattle.net_world.specs.declared.world.World.{World}
use Rattle.net_world.specs.Setup.{Setup}
use Rattle.net_world.specs.Happenings.{Happening}
use Rattle.net_world.specs.Changes.{Change}
use Rattle.net_world.specs.Outcomes.{outcome}
use Rattle.net_world.specs.World.{and_outcome, told_of_happening}
use Rattle.net_world.specs.Stands.{StandsFor}

-- What has changed once this has happened.
abbrev pub changes_after : Setup → List Change → Happening → List Change
changes_after w past e = and_outcome (outcome w past e) past

-- Memory ran out, and nothing has happened; or it is refused as the definitions say. No save of a
-- world fails by itself.
abbrev pub Faults : Setup → List Change → Happening → FaultSort → Fault → World → Type 0
Faults w past e sorts.Memory fault new = (fault ≡ NoMemory) × StandsFor w past new
Faults w past e sorts.Save fault new = ⊥
Faults w past e sorts.Refusal fault new =
    (told_of_happening w past e ≡ Err fault) × StandsFor w (changes_after w past e) new

-- How an event ends: it is told what the definitions say, and the world stands for what has changed
-- then.
abbrev pub Ends : Setup → List Change → Happening → World → Result Told Fault → Type 0
Ends w past e new (Ok t) =
    (told_of_happening w past e ≡ Ok t) × StandsFor w (changes_after w past e) new
Ends w past e new (Err fault) = Faults w past e (sort_of fault) fault new
