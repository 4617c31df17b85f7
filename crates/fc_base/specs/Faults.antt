-- Lists of the faults of a thing, in the order in which they are looked for.
use Rattle.std.specs.Prelude.{Bool, List, [], ◌∷◌, if◌then◌else◌}
use Rattle.fc_base.specs.declared.fault.Fault.{Fault}

-- This fault, where the test holds.
abbrev pub when : Bool → Fault → List Fault
when test fault = if test then fault ∷ [] else []
