-- With whom a client is, where one entry more came.
use Rattle.std.proofs.Common.{◌≡◌, refl, sym, ◌∙◌, ap, ℕ, ◌<◌, arith, Bool, true, false, ◌&&◌, ◌==◌, List, [], ◌∷◌, ◌++◌, Option, None, Some}
use Rattle.std.specs.Prelude.{if◌then◌else◌}
use Rattle.std.specs.List.{list_any}
use Rattle.fc_base.specs.declared.limits.TheConstants.{MAX_SERVERS}
use Rattle.fc_base.specs.declared.fault.Fault.{Fault}
use Rattle.disk_model.specs.declared.save_outcome.SaveOutcome.{SaveOutcome}
use Rattle.disk_model.specs.SaveOutcome.{has_new}
use Rattle.messages.specs.declared.packet.PacketParts.{PacketParts}
use Rattle.messages.specs.declared.body.Body.{Body}
use Rattle.messages.specs.declared.body.Body.TheVariants as bodies
use Rattle.messages.specs.declared.node.Node.{Node}
use Rattle.messages.specs.declared.node.Node.TheVariants as nodes
use Rattle.messages.specs.Nodes.{node_number, is_client, is_mirror}
use Rattle.client_core.specs.Inputs.{PacketInput, Deliver}
use Rattle.client_core.specs.declared.note.ClientNote.{ClientNote}
use Rattle.client_core.specs.declared.peers.Peers.{Peers}
use Rattle.client_core.specs.History.{Opening, Entry, Met}
use Rattle.client_core.specs.Refusals.{is_for_client, is_from_server, is_from_mirror, refusal_by}
use Rattle.client_core.specs.Saves.{Addition, NextRun, NextAttempt, Keep, noted_after}
use Rattle.client_core.specs.Words.{is_on, has_mirror, granted_in, granted_by, granted_generations, after_grant, words_noted, due, refusal, peers}

-- an addition leaves the generation
pub generation_stays : (new : Bool) (d : Option Addition) (n : ClientNote) → (noted_after new d n).generation ≡ n.generation
generation_stays new None n = refl
generation_stays true (Some NextRun) n = refl
generation_stays true (Some NextAttempt) n = refl
generation_stays true (Some (Keep state)) n = refl
generation_stays false (Some a) n = refl

pub same_generation : (o : Opening) (past : List Entry) (c : PacketInput) (left : SaveOutcome)
    → (words_noted o (Met c left ∷ past)).generation ≡ (words_noted o past).generation
same_generation o past c left = generation_stays (has_new left) (due o past c) (words_noted o past)

grants_if : (b : Bool) (now before : List ℕ) → (b ≡ true → now ≡ []) → (if b then now ++ before else before) ≡ before
grants_if true now before e = ap (λ gs. gs ++ before) (e refl)
grants_if false now before e = refl

by_parts : (o : Opening) (past : List Entry) (c : PacketInput) (left : SaveOutcome) → granted_generations (Met c left ∷ past) ≡ granted_generations past
    → peers o (Met c left ∷ past) ≡ peers o past
by_parts o past c left e = λ i. record {
  servers = o.servers;
  mirror = has_mirror past;
  granted = list_any (λ g. g == same_generation o past c left i) (e i);
}

-- A call that grants nothing leaves with whom the client is.
pub peers_stay : (o : Opening) (past : List Entry) (c : PacketInput) (left : SaveOutcome) → granted_by c ≡ [] → peers o (Met c left ∷ past) ≡ peers o past
peers_stay o past c left e = by_parts o past c left (grants_if (is_on past && has_mirror past) (granted_by c) (granted_generations past) (λ b. e))

-- ---- a refused call

grant_of : (peers : Peers) (n : ClientNote) (from to : Node) (body : Body) (fault : Fault) → peers.mirror ≡ true
    → refusal_by true peers n (Deliver (record { from = from; to = to; body = body })) ≡ Some fault
    → (if is_client to && is_mirror from then granted_in body else []) ≡ []
unfolding is_for_client is_from_server is_from_mirror
grant_of peers n nodes.Mirror nodes.Client (bodies.Granted g) fault m h = let k = rw m at h in cc
grant_of peers n nodes.Mirror nodes.Client _ fault m h = refl
grant_of peers n (nodes.Server s) to body fault m h = no_sender (is_client to)
  where
    no_sender : (b : Bool) → (if b && false then granted_in body else []) ≡ []
    no_sender true = refl
    no_sender false = refl
grant_of peers n nodes.Client to body fault m h = no_sender (is_client to)
  where
    no_sender : (b : Bool) → (if b && false then granted_in body else []) ≡ []
    no_sender true = refl
    no_sender false = refl
grant_of peers n nodes.Mirror nodes.Mirror body fault m h = refl
grant_of peers n nodes.Mirror (nodes.Server t) body fault m h = refl

no_grant : (peers : Peers) (n : ClientNote) (c : PacketInput) (fault : Fault) → peers.mirror ≡ true → refusal_by true peers n c ≡ Some fault → granted_by c ≡ []
no_grant peers n (Deliver p) fault m h = grant_of peers n p.from p.to p.body fault m h
no_grant peers n _ fault m h = refl

on_parts : (a b : Bool) → (a && b) ≡ true → (a ≡ true) × (b ≡ true)
on_parts true true h = (refl, refl)
on_parts true false h = cc
on_parts false b h = cc

-- A refused call leaves with whom the client is: a grant is never refused.
pub refused_peers : (o : Opening) (past : List Entry) (c : PacketInput) (left : SaveOutcome) (fault : Fault) → refusal o past c ≡ Some fault
    → peers o (Met c left ∷ past) ≡ peers o past
refused_peers o past c left fault r = by_parts o past c left (grants_if (is_on past && has_mirror past) (granted_by c) (granted_generations past) (λ b.
    let on = on_parts (is_on past) (has_mirror past) b in
    no_grant (peers o past) (words_noted o past) c fault on.1 (ap (λ x. refusal_by x (peers o past) (words_noted o past) c) (sym on.0) ∙ r)))

-- ---- what the mirror says

pub no_mirror : (from : Node) (server : ℕ) → node_number from ≡ server → server < MAX_SERVERS → is_mirror from ≡ false
no_mirror (nodes.Server s) server e l = refl
no_mirror nodes.Client server e l = refl
no_mirror nodes.Mirror server e l = absurd (omega arith)

pub from_server_grants_none : (p : PacketParts) → is_mirror p.from ≡ false → granted_by (Deliver p) ≡ []
from_server_grants_none p h = by_sender (is_client p.to) (is_mirror p.from) h
  where
    by_sender : (a b : Bool) → b ≡ false → (if a && b then granted_in p.body else []) ≡ []
    by_sender true true h = cc
    by_sender true false h = refl
    by_sender false b h = refl

after : (generation : ℕ) (body : Body) (servers : ℕ) (mirror : Bool) (gs : List ℕ)
    → record { servers = servers; mirror = mirror; granted = list_any (λ g. g == generation) (granted_in body ++ gs) }
    ≡ after_grant generation body (record { servers = servers; mirror = mirror; granted = list_any (λ g. g == generation) gs })
after generation (bodies.Granted g) servers mirror gs = refl
after generation _ servers mirror gs = refl

-- What the mirror says may grant the generation.
pub heard_peers : (o : Opening) (past : List Entry) (p : PacketParts) (left : SaveOutcome) → is_on past ≡ true → has_mirror past ≡ true → is_client p.to ≡ true
    → is_mirror p.from ≡ true
    → peers o (Met (Deliver p) left ∷ past) ≡ after_grant (words_noted o past).generation p.body (peers o past)
heard_peers o past p left on mirror to from =
    let e : granted_generations (Met (Deliver p) left ∷ past) ≡ granted_in p.body ++ granted_generations past = rw (on, mirror, to, from) refl in
    (λ i. record {
      servers = o.servers;
      mirror = has_mirror past;
      granted = list_any (λ g. g == same_generation o past (Deliver p) left i) (e i);
    }) ∙ after (words_noted o past).generation p.body o.servers (has_mirror past) (granted_generations past)
