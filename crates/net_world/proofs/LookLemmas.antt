-- What a world shows.
use Rattle.std.proofs.Common.{◌≡◌, refl, sym, ◌∙◌, ℕ, ◌<◌, ◌≤◌, Bool, true, false, ◌&&◌, List, Option, Some, None}
use Rattle.std.specs.Prelude.{if◌then◌else◌, nat_lt}
use Rattle.std.proofs.lemmas.Bool.{lt-ltb, le-ltb}
use Rattle.fc_base.specs.declared.numbers.Key.{Key}
use Rattle.messages.specs.declared.node.Node.TheVariants.{Server, Client}
use Rattle.server_core.specs.Answers as servers
use Rattle.client_core.specs.Words as clients
use Rattle.net_world.specs.Setup.{Setup}
use Rattle.net_world.specs.Trace.{opening_of, of_server, client_opening, of_client}
use Rattle.net_world.specs.Changes.{Change, trace}
use Rattle.net_world.specs.Barred.{is_on}
use Rattle.net_world.specs.World.{status, saved_state}
use Rattle.server_core.specs.Hearing.{is_up}
use Rattle.client_core.specs.Hearing as hearing
use Rattle.net_world.specs.Serving.{entries}
use Rattle.net_world.specs.Asking as asking
use Rattle.net_world.proofs.ServeLemmas.{up_is}
use Rattle.net_world.proofs.AskLemmas as asks

if_both : {X : Type 0} (a b : Bool) (x : X) → a ≡ true → b ≡ true → (if a && b then Some x else None) ≡ Some x
if_both a b x h k = rw (h, k) refl

if_first : {X : Type 0} (a b : Bool) (x : X) → a ≡ false → (if a && b then Some x else None) ≡ None
if_first a b x h = rw h refl

if_second : {X : Type 0} (a b : Bool) (x : X) → a ≡ true → b ≡ false → (if a && b then Some x else None) ≡ None
if_second a b x h k = rw (h, k) refl

pub no_status : (w : Setup) (past : List Change) (s : ℕ) → w.servers ≤ s → status w past s ≡ None
no_status w past s h =
    if_first (nat_lt s w.servers) (is_on w (trace w past) (Server s)) (servers.status (opening_of s) (of_server s (trace w past))) (le-ltb s w.servers h)

pub off_status : (w : Setup) (past : List Change) (s : ℕ) → s < w.servers → is_up (opening_of s) (entries past s) ≡ false → status w past s ≡ None
off_status w past s l h = if_second (nat_lt s w.servers) (is_on w (trace w past) (Server s)) (servers.status (opening_of s) (of_server s (trace w past)))
    (lt-ltb s w.servers l) (sym (up_is w past s) ∙ h)

pub on_status : (w : Setup) (past : List Change) (s : ℕ) → s < w.servers → is_up (opening_of s) (entries past s) ≡ true
    → status w past s ≡ Some (servers.status (opening_of s) (of_server s (trace w past)))
on_status w past s l h = if_both (nat_lt s w.servers) (is_on w (trace w past) (Server s)) (servers.status (opening_of s) (of_server s (trace w past)))
    (lt-ltb s w.servers l) (sym (up_is w past s) ∙ h)

if_on : {X : Type 0} (b : Bool) (x : Option X) → b ≡ true → (if b then x else None) ≡ x
if_on b x h = rw h refl

if_off : {X : Type 0} (b : Bool) (x : Option X) → b ≡ false → (if b then x else None) ≡ None
if_off b x h = rw h refl

pub off_saved : (w : Setup) (past : List Change) (key : Key) → hearing.is_up (client_opening w) (asking.entries w past) ≡ false
    → saved_state w past key ≡ None
off_saved w past key h =
    if_off (is_on w (trace w past) Client) (clients.kept_state (client_opening w) (of_client w (trace w past)) key) (sym (asks.up_is w past) ∙ h)

pub on_saved : (w : Setup) (past : List Change) (key : Key) → hearing.is_up (client_opening w) (asking.entries w past) ≡ true
    → saved_state w past key ≡ clients.kept_state (client_opening w) (of_client w (trace w past)) key
on_saved w past key h =
    if_on (is_on w (trace w past) Client) (clients.kept_state (client_opening w) (of_client w (trace w past)) key) (sym (asks.up_is w past) ∙ h)
