-- What takes no memory.
use Rattle.std.specs.Prelude.{◌≡◌, Result, Ok, Err}
use Rattle.fc_base.specs.declared.fault.Fault.{Fault}
use Rattle.fc_base.specs.declared.fault.Fault.TheVariants.{NoMemory}
use Rattle.server_core.specs.Inputs.{FrameInput}
use Rattle.server_core.specs.declared.input.Input.TheVariants.{Deliver, Issue, WriteDone, CheckDone}

-- Want of memory is not the answer.
abbrev pub TakesNone : {X : Type 0} → Result X Fault → Type 0
TakesNone (Ok x) = Unit {0}
TakesNone (Err fault) = fault ≡ NoMemory → ⊥

-- A request for a write, and the end of one, take no memory.
abbrev pub WritesTakeNone : {X : Type 0} → FrameInput → Result X Fault → Type 0
WritesTakeNone (Issue j) result = TakesNone result
WritesTakeNone (WriteDone ticket end) result = TakesNone result
WritesTakeNone (Deliver f) result = Unit {0}
WritesTakeNone (CheckDone boot a j report) result = Unit {0}
