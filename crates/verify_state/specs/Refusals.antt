-- Why a state that comes isn't kept.
use Rattle.std.specs.Prelude.{Bool, false, not, nat_le, List, ◌++◌, length, Option, Some, None}
use Rattle.fc_base.specs.declared.fault.Fault.{Fault}
use Rattle.fc_base.specs.declared.fault.Fault.TheVariants.{Conflict, TableFull}
use Rattle.fc_base.specs.Faults.{when}
use Rattle.verify_state.specs.State.{State}
use Rattle.verify_state.specs.Same.{is_same}
use Rattle.verify_state.specs.declared.table.TheConstants.{KEPT_LIMIT}
use Rattle.verify_state.specs.StateTable.{kept_of}

-- Another state is kept.
abbrev pub differs : State → Option State → Bool
differs state None = false
differs state (Some kept) = not (is_same kept state)

-- None is kept, and there is no room for one more.
abbrev pub lacks_room : List State → Option State → Bool
lacks_room states None = nat_le KEPT_LIMIT (length states)
lacks_room states (Some kept) = false

-- Why a state that comes is refused.
abbrev pub faults_of_state : List State → State → List Fault
faults_of_state states state =
    when (differs state (kept_of state.key states)) Conflict
    ++ when (lacks_room states (kept_of state.key states)) TableFull
