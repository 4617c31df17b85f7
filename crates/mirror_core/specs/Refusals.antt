-- Why a mirror refuses a frame, by what its note says.
use Rattle.std.specs.Prelude.{◌≡◌, Bool, not, nat_lt, List, [], ◌∷◌, ◌++◌, Option, Some, None, Result, Ok, Err, slice_get}
use Rattle.fc_base.specs.declared.fault.Fault.{Fault}
use Rattle.fc_base.specs.declared.fault.Fault.TheVariants.{Old, Down, Misdirected}
use Rattle.fc_base.specs.Faults.{when}
use Rattle.messages.specs.declared.frame.Frame.{Frame}
use Rattle.verify_state.specs.Refusals.{faults_of_state}
use Rattle.mirror_core.specs.declared.note.MirrorNote.{MirrorNote}
use Rattle.mirror_core.specs.declared.request.Request.{Request}
use Rattle.mirror_core.specs.declared.request.Request.TheVariants.{Copy, Fetch}
use Rattle.mirror_core.specs.Requests.{request_in}

-- Why what is asked for is refused: another state of the key is kept, or there is no room for one
-- more; a greater generation was granted.
abbrev pub faults_of_request : MirrorNote → Request → List Fault
faults_of_request n (Copy state) = faults_of_state n.kept state
faults_of_request n (Fetch generation) = when (nat_lt generation n.generation) Old

-- Why a frame is refused that asks for this: what asks for nothing is misdirected.
abbrev pub faults_of : MirrorNote → Option Request → List Fault
faults_of n None = Misdirected ∷ []
faults_of n (Some request) = faults_of_request n request

-- The first reason: a mirror that is off or down refuses every frame.
abbrev pub refusal_by : Bool → MirrorNote → Frame → Option Fault
refusal_by on n f = slice_get (when (not on) Down ++ faults_of n (request_in f)) 0

-- A frame is taken in as what it asks for, where it isn't refused, or it is refused.
abbrev pub IsAdmitted : Bool → MirrorNote → Frame → Result Request Fault → Type 0
IsAdmitted on n f (Ok request) = (refusal_by on n f ≡ None) × (request_in f ≡ Some request)
IsAdmitted on n f (Err fault) = refusal_by on n f ≡ Some fault
