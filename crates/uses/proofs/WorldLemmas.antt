-- The client of a world, which keeps states.
use Rattle.std.proofs.Common.{◌≡◌, Bool, true, false, List, Option, Some, None, IfSome, refl}
use Rattle.std.specs.Prelude.{if◌then◌else◌}
use Rattle.fc_base.specs.declared.numbers.Key.{Key}
use Rattle.verify_state.specs.State.{State}
use Rattle.messages.specs.declared.node.Node.TheVariants.{Client}
use Rattle.net_world.specs.Barred.{is_on}
use Rattle.net_world.specs.Changes.{Change, trace}
use Rattle.net_world.specs.Holders.{Holds, ByClient}
use Rattle.net_world.specs.Setup.{Setup}
use Rattle.net_world.specs.World.{saved_state}

-- What holds of each value that there may be.
pub if_some : {A : Type 0} (o : Option A) (P : A → Type 0) → ((x : A) → o ≡ Some x → P x) → IfSome o P
if_some None P holds = tt
if_some (Some x) P holds = holds x refl

where_on : {A : Type 0} (on : Bool) (o : Option A) (x : A) → (if on then o else None) ≡ Some x → o ≡ Some x
where_on true o x is = is
where_on false o x is = absurd cc

-- A state that the client shows is held.
pub shown_is_held : (w : Setup) (past : List Change) (key : Key) (state : State) → saved_state w past key ≡ Some state → Holds w (trace w past) key state
shown_is_held w past key state is = ByClient (where_on (is_on w (trace w past) Client) _ state is)
