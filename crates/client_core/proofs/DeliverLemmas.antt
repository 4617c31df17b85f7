-- A packet that is delivered.
use Rattle.std.proofs.Common.{◌≡◌, refl, sym, ap, subst, ◌∙◌, ℕ, ◌<◌, ◌≤◌, arith, Bool, true, false, ◌&&◌, List, [], length, Option, None, Some}
use Rattle.std.specs.Prelude.{if◌then◌else◌, not}
use Rattle.std.proofs.lemmas.Bool.{and_parts}
use Rattle.fc_base.specs.declared.limits.TheConstants.{MAX_SERVERS}
use Rattle.verify_state.specs.State.{State}
use Rattle.messages.specs.declared.packet.PacketParts.{PacketParts}
use Rattle.messages.specs.declared.body.Body.{Body}
use Rattle.messages.specs.declared.body.Body.TheVariants as bodies
use Rattle.messages.specs.Nodes.{node_number, is_client, is_mirror, is_node}
use Rattle.messages.specs.Packets.{is_packet}
use Rattle.messages.specs.Ranges.{is_body}
use Rattle.client_core.specs.Inputs.{Deliver}
use Rattle.messages.specs.Bodies.{kind_of}
use Rattle.messages.specs.Kinds.{is_of_mirror}
use Rattle.client_core.specs.declared.note.ClientNote.{ClientNote}
use Rattle.client_core.specs.declared.peers.Peers.{Peers}
use Rattle.verify_state.specs.StateTable.{kept_of}
use Rattle.client_core.specs.Life.{Deed}
use Rattle.client_core.specs.Packets.{replies, says_kept}
use Rattle.client_core.specs.Refusals.{is_for_client, faults_of_body, refusal_by}
use Rattle.client_core.specs.Saves.{Keep, unless_kept, addition_by}
use Rattle.client_core.specs.Told.{IsNoReport}
use Rattle.client_core.specs.Words.{granted_in, granted_by}
use Rattle.fc_base.specs.declared.numbers.Key.{Key}
use Rattle.verify_state.specs.declared.table.TheConstants.{KEPT_LIMIT}
use Rattle.client_core.proofs.HeardLemmas.{taken_in, server_below, mirror_parts}
use Rattle.verify_state.proofs.RefusalLemmas.{has_room}

-- A state that is added is of a key of which none is kept, and there is room for it.
pub record IsNew (n : ClientNote) (body : Body) (s : State) : Type 0 where
  pub new : kept_of s.key n.kept ≡ None
  pub room : length n.kept < KEPT_LIMIT
  pub no_report : IsNoReport body

state_new : (n : ClientNote) (jobs : ℕ) (state s : State) (x : Option State) → kept_of state.key n.kept ≡ x → unless_kept x state ≡ Some (Keep s)
    → faults_of_body n (bodies.State jobs state) ≡ [] → IsNew n (bodies.State jobs state) s
state_new n jobs state s (Some kept) is e free = cc
state_new n jobs state s None is e free =
    let same : state ≡ s = cc in
    subst (IsNew n (bodies.State jobs state)) same (record { new = is; room = has_room n.kept state is free; no_report = tt })

copy_new : (n : ClientNote) (state s : State) (x : Option State) → kept_of state.key n.kept ≡ x → unless_kept x state ≡ Some (Keep s)
    → faults_of_body n (bodies.Copy state) ≡ [] → IsNew n (bodies.Copy state) s
copy_new n state s (Some kept) is e free = cc
copy_new n state s None is e free =
    let same : state ≡ s = cc in
    subst (IsNew n (bodies.Copy state)) same (record { new = is; room = has_room n.kept state is free; no_report = tt })

pub adds_new : (n : ClientNote) (body : Body) (s : State) → addition_by n body ≡ Some (Keep s) → faults_of_body n body ≡ [] → IsNew n body s
adds_new n (bodies.State jobs state) s e free = state_new n jobs state s (kept_of state.key n.kept) refl e free
adds_new n (bodies.Copy state) s e free = copy_new n state s (kept_of state.key n.kept) refl e free
adds_new n _ s e free = cc

-- What is replied to a body is what is replied to its packet.
pub replied_to : (mirror : Bool) (n : ClientNote) (deeds : List Deed) (p : PacketParts) (server : ℕ) (body : Body) → p.body ≡ body → node_number p.from ≡ server
    → replies mirror n deeds server body ≡ replies mirror n deeds (node_number p.from) p.body
replied_to mirror n deeds p server body e f = ap (λ s. replies mirror n deeds s body) (sym f) ∙ ap (replies mirror n deeds (node_number p.from)) (sym e)

pub body_of_packet : (p : PacketParts) → is_packet p ≡ true → is_body p.body ≡ true
body_of_packet p h = (and_parts (is_node p.from && is_node p.to) (is_body p.body) h).1

-- A packet that isn't refused comes to a client that is up, and of whose note it has no fault.
pub deliver_free : (down : Bool) (peers : Peers) (n : ClientNote) (p : PacketParts) → refusal_by (not down) peers n (Deliver p) ≡ None
    → (down ≡ false) × (is_for_client peers p ≡ true) × (faults_of_body n p.body ≡ [])
deliver_free down peers n p r =
    let t = taken_in (not down) peers n p r in
    (is_up down t.0, t.1, t.2)
  where
    is_up : (b : Bool) → not b ≡ true → b ≡ false
    is_up true e = cc
    is_up false e = refl

-- What isn't from the mirror is from a server.
pub from_a_server : (peers : Peers) (p : PacketParts) → peers.servers ≤ MAX_SERVERS → is_mirror p.from ≡ false → is_for_client peers p ≡ true
    → node_number p.from < MAX_SERVERS
from_a_server peers p few other h = below_eight (node_number p.from) peers.servers (server_below peers p.from p.to p.body other h) few
  where
    below_eight : (s servers : ℕ) → s < servers → servers ≤ MAX_SERVERS → s < MAX_SERVERS
    below_eight s servers l few = omega arith

-- What is from the mirror comes to a client that has one, and is of its kinds.
pub from_the_mirror : (peers : Peers) (p : PacketParts) → is_mirror p.from ≡ true → is_for_client peers p ≡ true
    → (peers.mirror ≡ true) × (is_of_mirror (kind_of p.body) ≡ true) × (is_client p.to ≡ true)
from_the_mirror peers p from h = mirror_parts peers p.from p.to p.body from h

-- Nothing is replied to the mirror.
pub no_reply : (mirror : Bool) (n : ClientNote) (deeds : List Deed) (server : ℕ) (body : Body) → is_of_mirror (kind_of body) ≡ true
    → replies mirror n deeds server body ≡ []
no_reply mirror n deeds server (bodies.Copy state) h = refl
no_reply mirror n deeds server (bodies.CopyOk r node job) h = refl
no_reply mirror n deeds server (bodies.Granted generation) h = refl
no_reply mirror n deeds server _ h = cc

-- What of the mirror's adds a state grants nothing, and tells of no copy.
pub record IsCopy (p : PacketParts) : Type 0 where
  pub grants : granted_by (Deliver p) ≡ []
  pub tells : (key : Key) → says_kept key p.body ≡ false

pub adds_copy : (n : ClientNote) (p : PacketParts) (body : Body) (s : State) → p.body ≡ body → is_of_mirror (kind_of body) ≡ true
    → addition_by n body ≡ Some (Keep s) → IsCopy p
adds_copy n p (bodies.Copy state) s e h adds = record {
  grants = either (is_client p.to && is_mirror p.from) (granted_in p.body) (ap granted_in e);
  tells = λ key. ap (says_kept key) e;
}
  where
    either : (b : Bool) (gs : List ℕ) → gs ≡ [] → (if b then gs else []) ≡ []
    either true gs e = e
    either false gs e = refl
adds_copy n p (bodies.CopyOk r node job) s e h adds = cc
adds_copy n p (bodies.Granted generation) s e h adds = cc
adds_copy n p _ s e h adds = cc
