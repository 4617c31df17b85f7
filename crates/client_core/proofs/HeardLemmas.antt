-- A packet that isn't refused is for the client, and from one of the servers, and has no state but its own,
-- or from the mirror.
use Rattle.std.proofs.Common.{◌≡◌, refl, ℕ, ◌<◌, Bool, true, false, ◌&&◌, ◌||◌, ◌==◌, List, [], ◌∷◌, ◌++◌, Option, None, Some}
use Rattle.std.specs.Prelude.{not, is_none, nat_lt, slice_get}
use Rattle.std.proofs.lemmas.Bool.{and_parts, eqb-true, ltb-true}
use Rattle.fc_base.specs.declared.fault.Fault.{Fault}
use Rattle.fc_base.specs.declared.fault.Fault.TheVariants.{Down, Misdirected}
use Rattle.fc_base.specs.Faults.{when}
use Rattle.verify_state.specs.State.{State}
use Rattle.messages.specs.declared.packet.PacketParts.{PacketParts}
use Rattle.messages.specs.declared.body.Body.{Body}
use Rattle.messages.specs.declared.body.Body.TheVariants as bodies
use Rattle.messages.specs.declared.node.Node.{Node}
use Rattle.messages.specs.declared.node.Node.TheVariants as nodes
use Rattle.messages.specs.Nodes.{node_number, is_client, is_mirror}
use Rattle.disk_model.specs.declared.save_outcome.SaveOutcome.{SaveOutcome}
use Rattle.disk_model.specs.declared.save_outcome.SaveOutcome.TheVariants.{NoSave, Saved, LostNew, LostOld}
use Rattle.disk_model.specs.SaveOutcome.{has_new}
use Rattle.client_core.specs.Inputs.{Deliver}
use Rattle.verify_state.specs.StateTable.{kept_of}
use Rattle.verify_state.specs.TableLaws.{LastIsFound}
use Rattle.messages.specs.Bodies.{kind_of}
use Rattle.messages.specs.Kinds.{is_of_mirror}
use Rattle.client_core.specs.declared.note.ClientNote.{ClientNote}
use Rattle.client_core.specs.declared.peers.Peers.{Peers}
use Rattle.client_core.specs.Refusals.{is_for_client, is_from_server, is_from_mirror, faults_of_body, refusal_by}
use Rattle.client_core.specs.Saves.{unless_kept, noted_after, is_answer}
use Rattle.client_core.specs.Laws.{from_server, from_mirror}

no_fault : (on ours : Bool) (more : List Fault) → slice_get (when (not on) Down ++ (when (not ours) Misdirected ++ more)) 0 ≡ None
    → (on ≡ true) × (ours ≡ true) × (more ≡ [])
no_fault true true [] h = (refl, refl, refl)
no_fault true true (f ∷ more) h = cc
no_fault true false more h = cc
no_fault false ours more h = cc

pub taken_in : (on : Bool) (peers : Peers) (n : ClientNote) (p : PacketParts) → refusal_by on peers n (Deliver p) ≡ None
    → (on ≡ true) × (is_for_client peers p ≡ true) × (faults_of_body n p.body ≡ [])
taken_in on peers n p h = no_fault on (is_for_client peers p) (faults_of_body n p.body) h

pub clash : (b : Bool) → b ≡ false → b ≡ true → ⊥
clash true h g = cc
clash false h g = cc

first_alone : (a m : Bool) → (a || (m && false)) ≡ true → a ≡ true
first_alone true m h = refl
first_alone false true h = cc
first_alone false false h = cc

neither : (a m : Bool) → ((a && false) || (m && false)) ≡ true → ⊥
neither true true h = cc
neither true false h = cc
neither false true h = cc
neither false false h = cc

-- what the mirror doesn't send is from a server
pub from_own : (peers : Peers) (from to : Node) (body : Body) → is_of_mirror (kind_of body) ≡ false
    → is_for_client peers (record { from = from; to = to; body = body }) ≡ true
    → record { from = from; to = to; body = body } ≡ from_server body (node_number from)
unfolding is_for_client is_from_server is_from_mirror
from_own peers (nodes.Server f) nodes.Client body other h = refl
from_own peers nodes.Mirror nodes.Client body other h =
    absurd (clash (is_of_mirror (kind_of body)) other ((and_parts peers.mirror (is_of_mirror (kind_of body)) h).1))
from_own peers (nodes.Server f) (nodes.Server t) body other h = cc
from_own peers (nodes.Server f) nodes.Mirror body other h = cc
from_own peers nodes.Client (nodes.Server t) body other h = cc
from_own peers nodes.Client nodes.Client body other h = absurd (neither false peers.mirror h)
from_own peers nodes.Client nodes.Mirror body other h = cc
from_own peers nodes.Mirror (nodes.Server t) body other h = cc
from_own peers nodes.Mirror nodes.Mirror body other h = cc

-- a copy is from the mirror
pub from_its_mirror : (peers : Peers) (from to : Node) (state : State) → is_for_client peers (record { from = from; to = to; body = bodies.Copy state }) ≡ true
    → record { from = from; to = to; body = bodies.Copy state } ≡ from_mirror (bodies.Copy state)
unfolding is_for_client is_from_server is_from_mirror
from_its_mirror peers (nodes.Server f) nodes.Client state h = absurd (neither (nat_lt f peers.servers) peers.mirror h)
from_its_mirror peers nodes.Mirror nodes.Client state h = refl
from_its_mirror peers (nodes.Server f) (nodes.Server t) state h = cc
from_its_mirror peers (nodes.Server f) nodes.Mirror state h = cc
from_its_mirror peers nodes.Client (nodes.Server t) state h = cc
from_its_mirror peers nodes.Client nodes.Client state h = absurd (neither false peers.mirror h)
from_its_mirror peers nodes.Client nodes.Mirror state h = cc
from_its_mirror peers nodes.Mirror (nodes.Server t) state h = cc
from_its_mirror peers nodes.Mirror nodes.Mirror state h = cc

pub own_state : (peers : Peers) (from to : Node) (jobs : ℕ) (s : State)
    → is_for_client peers (record { from = from; to = to; body = bodies.State jobs s }) ≡ true → s.key.server ≡ node_number from
unfolding is_for_client is_from_server is_from_mirror
own_state peers (nodes.Server f) nodes.Client jobs s h =
    let a = first_alone (nat_lt f peers.servers && (s.key.server == f)) peers.mirror h in
    let p = and_parts (nat_lt f peers.servers) (s.key.server == f) a in
    eqb-true s.key.server f p.1
own_state peers nodes.Mirror nodes.Client jobs s h = absurd (neither false peers.mirror h)
own_state peers (nodes.Server f) (nodes.Server t) jobs s h = cc
own_state peers (nodes.Server f) nodes.Mirror jobs s h = cc
own_state peers nodes.Client (nodes.Server t) jobs s h = cc
own_state peers nodes.Client nodes.Client jobs s h = absurd (neither false peers.mirror h)
own_state peers nodes.Client nodes.Mirror jobs s h = cc
own_state peers nodes.Mirror (nodes.Server t) jobs s h = cc
own_state peers nodes.Mirror nodes.Mirror jobs s h = cc

pub server_below : (peers : Peers) (from to : Node) (body : Body) → is_mirror from ≡ false
    → is_for_client peers (record { from = from; to = to; body = body }) ≡ true → node_number from < peers.servers
unfolding is_for_client is_from_server is_from_mirror
server_below peers (nodes.Server f) nodes.Client body other h =
    let a = first_alone (nat_lt f peers.servers && _) peers.mirror h in
    let p = and_parts (nat_lt f peers.servers) _ a in
    ltb-true f peers.servers p.0
server_below peers (nodes.Server f) (nodes.Server t) body other h = cc
server_below peers (nodes.Server f) nodes.Mirror body other h = cc
server_below peers nodes.Client (nodes.Server t) body other h = cc
server_below peers nodes.Client nodes.Client body other h = absurd (neither false peers.mirror h)
server_below peers nodes.Client nodes.Mirror body other h = cc
server_below peers nodes.Mirror to body other h = cc

pub mirror_parts : (peers : Peers) (from to : Node) (body : Body) → is_mirror from ≡ true
    → is_for_client peers (record { from = from; to = to; body = body }) ≡ true
    → (peers.mirror ≡ true) × (is_of_mirror (kind_of body) ≡ true) × (is_client to ≡ true)
unfolding is_for_client is_from_server is_from_mirror
mirror_parts peers nodes.Mirror nodes.Client body from h = let p = and_parts peers.mirror (is_of_mirror (kind_of body)) h in (p.0, p.1, refl)
mirror_parts peers nodes.Mirror nodes.Mirror body from h = cc
mirror_parts peers nodes.Mirror (nodes.Server t) body from h = cc
mirror_parts peers nodes.Client to body from h = cc
mirror_parts peers (nodes.Server f) to body from h = cc

pub sender_below : (peers : Peers) (from to : Node) (body : Body) → is_of_mirror (kind_of body) ≡ false
    → is_for_client peers (record { from = from; to = to; body = body }) ≡ true → node_number from < peers.servers
sender_below peers from to body other h = by_sender (is_mirror from) refl
  where
    by_sender : (b : Bool) → is_mirror from ≡ b → node_number from < peers.servers
    by_sender true m = absurd (clash (is_of_mirror (kind_of body)) other (mirror_parts peers from to body m h).1)
    by_sender false m = server_below peers from to body m h

pub none_or : (r : Option Fault) (b : Bool) → (is_none r && b) ≡ true → r ≡ None
none_or None b h = refl
none_or (Some f) b h = cc

-- after a state that was answered its key has a state
pub has_one : LastIsFound → (n : ClientNote) (left : SaveOutcome) (x : Option State) (state : State) → kept_of state.key n.kept ≡ x
    → is_answer (unless_kept x state) left ≡ true
    → (s : State) × (kept_of state.key (noted_after (has_new left) (unless_kept x state) n).kept ≡ Some s)
has_one last n left (Some k) state h a = (k, h)
has_one last n NoSave None state h a = cc
has_one last n Saved None state h a = (state, last n.kept state h)
has_one last n LostNew None state h a = cc
has_one last n LostOld None state h a = cc
