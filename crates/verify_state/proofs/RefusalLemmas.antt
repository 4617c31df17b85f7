-- What is refused of states, and the room for one that isn't refused.
use Rattle.std.proofs.Common.{◌≡◌, refl, subst, ◌<◌, arith, Bool, true, false, List, [], ◌∷◌, ◌++◌, length, Option, None, Some}
use Rattle.std.specs.Prelude.{slice_get}
use Rattle.std.specs.List.{AllByRecursion}
use Rattle.std.proofs.lemmas.Bool.Decides.{nat_tests}
use Rattle.fc_base.specs.declared.fault.Fault.{Fault}
use Rattle.fc_base.specs.declared.fault.Fault.TheVariants.{Conflict, TableFull}
use Rattle.fc_base.specs.declared.fault.FaultSort.TheVariants as sorts
use Rattle.fc_base.specs.Fault.{sort_of}
use Rattle.fc_base.specs.Faults.{when}
use Rattle.verify_state.specs.State.{State}
use Rattle.verify_state.specs.declared.table.TheConstants.{KEPT_LIMIT}
use Rattle.verify_state.specs.StateTable.{kept_of}
use Rattle.verify_state.specs.Refusals.{differs, lacks_room, faults_of_state}

abbrev pub IsRefusal : Fault → Type 0
IsRefusal fault = sort_of fault ≡ sorts.Refusal

pub one_refusal : (b : Bool) (f : Fault) → IsRefusal f → AllByRecursion IsRefusal (when b f)
one_refusal true f r = (r, tt)
one_refusal false f r = tt

pub more_refusals : (b : Bool) (f : Fault) (fs : List Fault) → IsRefusal f → AllByRecursion IsRefusal fs → AllByRecursion IsRefusal (when b f ++ fs)
more_refusals true f fs r all = (r, all)
more_refusals false f fs r all = all

pub first_refusal : (fs : List Fault) (fault : Fault) → AllByRecursion IsRefusal fs → slice_get fs 0 ≡ Some fault → IsRefusal fault
first_refusal [] fault all e = cc
first_refusal (f ∷ fs) fault all e = subst IsRefusal (some_is e) all.0
  where
    some_is : Some f ≡ Some fault → f ≡ fault
    some_is e = cc

pub state_refusals : (states : List State) (state : State) → AllByRecursion IsRefusal (faults_of_state states state)
state_refusals states state =
    let full = lacks_room states (kept_of state.key states) in
    more_refusals (differs state (kept_of state.key states)) Conflict (when full TableFull) refl (one_refusal full TableFull refl)

-- ---- a state that isn't refused

room_by : (d : Bool) (states : List State) (x : Option State) → x ≡ None → when d Conflict ++ when (lacks_room states x) TableFull ≡ []
    → length states < KEPT_LIMIT
room_by false states None e free = not_full (lacks_room states None) refl free
  where
    not_full : (full : Bool) → lacks_room states None ≡ full → when full TableFull ≡ [] → length states < KEPT_LIMIT
    not_full true is free = cc
    not_full false is free = grind (arith, nat_tests)
room_by true states x e free = cc
room_by d states (Some k) e free = cc

pub has_room : (states : List State) (state : State) → kept_of state.key states ≡ None → faults_of_state states state ≡ [] → length states < KEPT_LIMIT
has_room states state none free = room_by (differs state (kept_of state.key states)) states (kept_of state.key states) none free
