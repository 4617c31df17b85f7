-- A cut within the save of what makes none.
use Rattle.std.proofs.Common.{◌≡◌, refl, sym, ◌∙◌, ap, ℕ, Bool, true, false, List, Some, None, Err}
use Rattle.std.specs.Prelude.{not}
use Rattle.fc_base.specs.declared.fault.Fault.{Fault}
use Rattle.fc_base.specs.declared.fault.Fault.TheVariants.{NodeOff, NodeOn, NoSave, NoFrame, NoMemory}
use Rattle.messages.specs.declared.node.Node.TheVariants.{Client}
use Rattle.net_world.specs.declared.world.World.{World}
use Rattle.net_world.specs.Setup.{Setup}
use Rattle.net_world.specs.Happenings.{Deliver, Restart, CutIn}
use Rattle.net_world.specs.Trace.{client_opening}
use Rattle.net_world.specs.Changes.{Change, trace}
use Rattle.net_world.specs.Barred.{unless, is_on, unless_on, unless_sent}
use Rattle.client_core.specs.Hearing.{is_up}
use Rattle.net_world.specs.Asking.{entries}
use Rattle.net_world.specs.Delivering.{FindsFrame}
use Rattle.net_world.specs.Stands.{StandsFor}
use Rattle.net_world.specs.Ends.{Ends}
use Rattle.net_world.proofs.AskLemmas.{up_is}
use Rattle.net_world.proofs.EndsLemmas.{goes, stops, refuses}

-- The client is on or off, by the trace.
up_off : (b : Bool) → b ≡ true → unless b NodeOff ≡ None
up_off b h = rw h refl

down_off : (b : Bool) → b ≡ false → unless b NodeOff ≡ Some NodeOff
down_off b h = rw h refl

pub client_there : (w : Setup) (past : List Change) → is_up (client_opening w) (entries w past) ≡ true → unless_on w (trace w past) Client ≡ None
client_there w past h = up_off (is_on w (trace w past) Client) (sym (up_is w past) ∙ h)

pub client_gone : (w : Setup) (past : List Change) → is_up (client_opening w) (entries w past) ≡ false → unless_on w (trace w past) Client ≡ Some NodeOff
client_gone w past h = down_off (is_on w (trace w past) Client) (sym (up_is w past) ∙ h)

-- There is no such frame, or memory has run out.
pub lost_cut : (w : Setup) (past : List Change) (landed : Bool) (now : World) (number : ℕ) (fault : Fault) → StandsFor w past now
    → FindsFrame w past number (Err fault) → Ends w past (CutIn landed (Deliver number)) now (Err fault)
lost_cut w past landed now number NoFrame stands h =
    refuses w past (CutIn landed (Deliver number)) NoFrame now refl
    (stops w past (CutIn landed (Deliver number)) NoFrame (ap (unless_sent w (trace w past)) h)) stands
lost_cut w past landed now number NoMemory stands h = (refl, stands)
lost_cut w past landed now number _ stands h = absurd h

-- The client's restart.
on_up : (b : Bool) → b ≡ true → unless (not b) NodeOn ≡ Some NodeOn
on_up b h = rw h refl

on_down : (b : Bool) → b ≡ false → unless (not b) NodeOn ≡ None
on_down b h = rw h refl

pub client_restart_on : (w : Setup) (past : List Change) (landed : Bool) (now : World) → StandsFor w past now → is_up (client_opening w) (entries w past) ≡ true
    → Ends w past (CutIn landed (Restart Client)) now (Err NodeOn)
client_restart_on w past landed now stands h =
    refuses w past (CutIn landed (Restart Client)) NodeOn now refl
    (stops w past (CutIn landed (Restart Client)) NodeOn (on_up (is_on w (trace w past) Client) (sym (up_is w past) ∙ h))) stands

pub client_restart_off : (w : Setup) (past : List Change) (landed : Bool) (now : World) → StandsFor w past now
    → is_up (client_opening w) (entries w past) ≡ false → Ends w past (CutIn landed (Restart Client)) now (Err NoSave)
client_restart_off w past landed now stands h =
    refuses w past (CutIn landed (Restart Client)) NoSave now refl
    (goes w past (CutIn landed (Restart Client)) (on_down (is_on w (trace w past) Client) (sym (up_is w past) ∙ h))) stands
