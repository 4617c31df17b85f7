-- What a client that stands for a list knows of it.
use Rattle.std.proofs.Common.{◌≡◌, refl, sym, ◌∙◌, ap, Bool, true, false, ◌&&◌, List, Option, None, Some}
use Rattle.std.specs.Prelude.{not, is_none, is_some}
use Rattle.fc_base.specs.declared.fault.Fault.{Fault}
use Rattle.messages.specs.declared.packet.PacketParts.{PacketParts}
use Rattle.client_core.specs.Inputs.{PacketInput, Deliver}
use Rattle.client_core.specs.declared.packet_client.PacketClient.{PacketClient}
use Rattle.disk_model.specs.Notes.{Note}
use Rattle.client_core.specs.Stands.{StandsFor}
use Rattle.client_core.specs.declared.note.ClientNote.{ClientNote}
use Rattle.client_core.specs.History.{Opening, Entry}
use Rattle.client_core.specs.Refusals.{refusal_by}
use Rattle.client_core.specs.Saves.{Addition, addition_of, addition_by, unless_refused, due_by}
use Rattle.client_core.specs.declared.peers.Peers.{Peers}
use Rattle.client_core.specs.Words.{is_on, words_noted, peers, refusal, would_save}
use Rattle.client_core.proofs.Looked.{looks_at_all}
use Rattle.client_core.proofs.RefusalLemmas.{refusal_is}

both : (r : Option Fault) (a : Option Addition) → (is_none r && is_some a) ≡ is_some (unless_refused r a)
both None a = refl
both (Some f) a = refl

would_by : (on : Bool) (with peers : Peers) (n m : ClientNote) (p : PacketParts) → (on ≡ true → with ≡ peers) → (on ≡ true → m ≡ n)
    → (is_none (refusal_by on with m (Deliver p)) && is_some (addition_by m p.body)) ≡ is_some (due_by on peers n (Deliver p))
would_by true with peers n m p f e =
    ap (λ x. is_none (refusal_by true x m (Deliver p)) && is_some (addition_by m p.body)) (f refl)
    ∙ ap (λ x. is_none (refusal_by true peers x (Deliver p)) && is_some (addition_by x p.body)) (e refl)
    ∙ both (refusal_by true peers n (Deliver p)) (addition_by n p.body)
would_by false with peers n m p f e = refl

not_not : (b : Bool) → not (not b) ≡ b
not_not true = refl
not_not false = refl

pub stands_on : {T : Type 0} (note : T → Note) (client : PacketClient T) (o : Opening) (past : List Entry) → StandsFor note client o past
    → not client.durable.down ≡ is_on past
stands_on note client o past s = ap not s.on ∙ not_not (is_on past)

pub stands_known : {T : Type 0} (note : T → Note) (client : PacketClient T) (o : Opening) (past : List Entry) → StandsFor note client o past → is_on past ≡ true
    → client.noted ≡ words_noted o past
stands_known note client o past s on = s.knows ∙ ap (words_noted o) (looks_at_all past on)

stands_with : {T : Type 0} (note : T → Note) (client : PacketClient T) (o : Opening) (past : List Entry) → StandsFor note client o past → is_on past ≡ true
    → client.peers ≡ peers o past
stands_with note client o past s on = s.peers ∙ ap (peers o) (looks_at_all past on)

pub stands_would : {T : Type 0} (note : T → Note) (client : PacketClient T) (o : Opening) (past : List Entry) (p : PacketParts) → StandsFor note client o past
    → (is_none (refusal_by (not client.durable.down) client.peers client.noted (Deliver p)) && is_some (addition_by client.noted p.body))
    ≡ would_save o past (Deliver p)
stands_would note client o past p s =
    ap (λ on. is_none (refusal_by on client.peers client.noted (Deliver p)) && is_some (addition_by client.noted p.body)) (stands_on note client o past s)
    ∙ would_by (is_on past) client.peers (peers o past) (words_noted o past) client.noted p (stands_with note client o past s)
    (stands_known note client o past s)

-- ---- a call that adds something unless it is refused

free_adds : (r : Option Fault) (a : Addition) → is_none r ≡ is_some (unless_refused r (Some a))
free_adds None a = refl
free_adds (Some f) a = refl

pub call_would : {T : Type 0} (note : T → Note) (client : PacketClient T) (o : Opening) (past : List Entry) (c : PacketInput) (a : Addition)
    → ((x : ClientNote) → addition_of x c ≡ Some a) → StandsFor note client o past
    → is_none (refusal_by (not client.durable.down) client.peers client.noted c) ≡ would_save o past c
call_would note client o past c a adds s =
    ap is_none (refusal_is note client o past c s) ∙ free_adds (refusal o past c) a
    ∙ ap (λ x. is_some (unless_refused (refusal o past c) x)) (sym (adds (words_noted o past)))

pub not_some : (b : Bool) (r : Option Fault) → not b ≡ is_some r → b ≡ is_none r
not_some true None h = refl
not_some false None h = cc
not_some true (Some f) h = cc
not_some false (Some f) h = refl

pub none_if : (r : Option Fault) → is_some r ≡ false → is_none r ≡ true
none_if None h = refl
none_if (Some f) h = cc

pub some_if : (r : Option Fault) → is_some r ≡ true → is_none r ≡ false
some_if None h = cc
some_if (Some f) h = refl
