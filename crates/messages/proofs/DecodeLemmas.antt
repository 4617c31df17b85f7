-- What a header and a body together say of a frame.
use Rattle.std.proofs.Common.{◌≡◌, inl, inr, ℕ, Bool, true, false, Option, Some, None, Ok, Err, if◌then◌else◌, List, drop, refl, sym, subst, ap, ◌∙◌}
use Rattle.std.specs.Prelude.{◌==◌, nat_lt}
use Rattle.std.specs.Option.{option_map}
use Rattle.std.proofs.lemmas.Option.{same_Some}
use Rattle.fc_base.specs.declared.fault.Fault.{Fault}
use Rattle.messages.specs.declared.body.Body.{Body}
use Rattle.messages.specs.declared.kind.PacketKind.{PacketKind}
use Rattle.messages.specs.declared.node.Node.{Node}
use Rattle.messages.specs.declared.node.Node.TheVariants.{Server, Client, Mirror}
use Rattle.messages.specs.declared.packet.PacketParts.{PacketParts}
use Rattle.messages.specs.declared.reading.Header.{Header}
use Rattle.messages.specs.Kinds.{kind_numbered}
use Rattle.messages.specs.Nodes.{node_numbered, is_node}
use Rattle.messages.specs.Bodies.{body_at, Reads}
use Rattle.messages.specs.Packets.{header_at, body_limit, packet_at, is_packet, Answers}
use Rattle.messages.specs.Headers.{HeaderIs}
use Rattle.messages.specs.Laws.{IsBytes, Says, OnlyPacketsAreRead}
use Rattle.messages.proofs.BodyLemmas.{body_at-in_range}

abbrev pub packet_of : Header PacketKind → Body → PacketParts
packet_of h b = record { from = h.ends.from; to = h.ends.to; body = b }

pub node_in_range : (n : ℕ) (node : Node) → node_numbered n ≡ Some node → is_node node ≡ true
node_in_range n node e = pick (nat_lt n 8) refl (n == 8) (n == 9) e
  where
    pick : (below : Bool) → nat_lt n 8 ≡ below → (client last : Bool)
        → (if below then Some (Server n) else if client then Some Client else if last then Some Mirror else None) ≡ Some node → is_node node ≡ true
    pick true b client last same = rw (← same_Some (Server n) node same) b
    pick false b true last same = rw (← same_Some Client node same) refl
    pick false b false true same = rw (← same_Some Mirror node same) refl
    pick false b false false same = absurd cc

pub packet_in_range : (h : Header PacketKind) (bytes : List ℕ) (b : Body) → HeaderIs kind_numbered body_limit (Ok h) bytes
    → body_at h.kind (drop 16 bytes) ≡ Some b → is_packet (packet_of h b) ≡ true
packet_in_range h bytes b told e =
    rw (node_in_range (header_at 4 bytes) h.ends.from told.2, node_in_range (header_at 5 bytes) h.ends.to told.3, body_at-in_range h.kind (drop 16 bytes) b e)
    refl

pub packet_at-told : (h : Header PacketKind) (bytes : List ℕ) → HeaderIs kind_numbered body_limit (Ok h) bytes
    → packet_at bytes ≡ option_map (packet_of h) (body_at h.kind (drop 16 bytes))
packet_at-told h bytes told = rw (told.1, told.2, told.3) refl

pub answers_ok : (h : Header PacketKind) (bytes : List ℕ) (b : Body) → HeaderIs kind_numbered body_limit (Ok h) bytes → body_at h.kind (drop 16 bytes) ≡ Some b
    → Answers (Ok (packet_of h b)) bytes
answers_ok h bytes b told e =
    let is : packet_at bytes ≡ Some (packet_of h b) = packet_at-told h bytes told ∙ ap (option_map (packet_of h)) e in
    (rw (told.0, is) refl, is)

no_body : (h : Header PacketKind) (f : Fault) (bytes : List ℕ) → HeaderIs kind_numbered body_limit (Ok h) bytes → (o : Option Body)
    → body_at h.kind (drop 16 bytes) ≡ o → Reads (Err f) o → Answers (Err f) bytes
no_body h f bytes told None none field =
    let is : packet_at bytes ≡ None = packet_at-told h bytes told ∙ ap (option_map (packet_of h)) none in
    inr (rw (told.0, is, field) refl)
no_body h f bytes told (Some b) some memory =
    inl (memory, (answers_ok h bytes b told some).0)

pub answers_body : (h : Header PacketKind) (f : Fault) (bytes : List ℕ) → HeaderIs kind_numbered body_limit (Ok h) bytes
    → Reads (Err f) (body_at h.kind (drop 16 bytes)) → Answers (Err f) bytes
answers_body h f bytes told reads = no_body h f bytes told (body_at h.kind (drop 16 bytes)) refl reads

-- What is read is said so.
pub says : OnlyPacketsAreRead → (bytes : List ℕ) (p : PacketParts) → IsBytes bytes → Answers (Ok p) bytes → Says bytes p
says law bytes p fits answer =
    let found = law bytes fits answer.0 in
    subst (Says bytes) (same_Some found.0 p (sym found.1 ∙ answer.1)) found.2

-- What isn't read of a body isn't read of what is made of it.
pub reads_mapped : {X Y : Type 0} (f : X → Y) (fault : Fault) (said : Option X) (fits : Bool) → fits ≡ true → Reads {X = X} (Err fault) said
    → Reads {X = Y} (Err fault) (if fits then option_map f said else None)
reads_mapped f fault said false e h = absurd cc
reads_mapped f fault None true e h = h
reads_mapped f fault (Some x) true e h = h
