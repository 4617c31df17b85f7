-- How a call ends, by what the client itself keeps.
use Rattle.std.proofs.Common.{◌≡◌, sym, ap, subst, ◌∙◌, ℕ, true, false, List, [], ◌∷◌, ◌++◌, None, Some}
use Rattle.std.specs.Prelude.{not, Ok, Err}
use Rattle.fc_base.specs.declared.fault.Fault.{Fault}
use Rattle.fc_base.specs.Fault.{sort_of}
use Rattle.disk_model.specs.SaveOutcome.{saved_for}
use Rattle.disk_model.specs.Notes.{Note}
use Rattle.node.specs.Steps.{Answers, Faults}
use Rattle.messages.specs.declared.packet.PacketParts.{PacketParts}
use Rattle.messages.specs.declared.body.Body.{Body}
use Rattle.messages.specs.Nodes.{is_client, is_mirror}
use Rattle.client_core.specs.Inputs.{PacketInput, Deliver}
use Rattle.client_core.specs.declared.note.ClientNote.{ClientNote}
use Rattle.client_core.specs.declared.packet_client.PacketClient.{PacketClient}
use Rattle.client_core.specs.declared.life.Life.{Life}
use Rattle.client_core.specs.Note.{IsNoted, SaysWhatIsWritten}
use Rattle.client_core.specs.History.{Opening, Entry}
use Rattle.client_core.specs.Framed.{frame_bytes}
use Rattle.client_core.specs.Life.{life, deeds_of}
use Rattle.client_core.specs.Lives.{LifeIs, EachLife}
use Rattle.client_core.specs.Refusals.{refusal_by}
use Rattle.client_core.specs.Saves.{Addition, with_addition, addition_of}
use Rattle.client_core.specs.declared.peers.Peers.{Peers}
use Rattle.client_core.specs.Words.{after_grant, granted_by, has_mirror, words_noted, due, refusal, peers}
use Rattle.client_core.specs.Packets.{packets_for}
use Rattle.client_core.specs.Stands.{StandsFor}
use Rattle.client_core.specs.Ends.{answered_entry, steps, Stores}
use Rattle.client_core.proofs.EndLemmas.{knows_now, leaves_plain, leaves_stored, unsaved, stored_stands, plain_stands, sends_now}
use Rattle.client_core.proofs.PeersLemmas.{heard_peers, peers_stay}
use Rattle.client_core.proofs.RefusalLemmas.{refusal_is}

-- A client that isn't refused is up, and knows what its list says.
pub free_now : {T : Type 0} (note : T → Note) (client : PacketClient T) (o : Opening) (past : List Entry) (c : PacketInput) → client.durable.down ≡ false
    → StandsFor note client o past → refusal_by (not client.durable.down) client.peers client.noted c ≡ None
    → (refusal o past c ≡ None) × (words_noted o past ≡ client.noted) × (peers o past ≡ client.peers) × LifeIs client.life (life o past)
free_now note client o past c up s r =
    let k = knows_now note client o past up s in
    (sym (refusal_is note client o past c s) ∙ r, sym k.knows, sym k.peers, k.lives)

-- The call's save fails.
pub fails_stored : {T : Type 0} (note : T → Note) (old new : PacketClient T) (kept : Life) (a : Addition) (fault : Fault) (o : Opening) (past : List Entry)
    (c : PacketInput) → SaysWhatIsWritten → old.durable.down ≡ false → refusal_by (not old.durable.down) old.peers old.noted c ≡ None
    → addition_of old.noted c ≡ Some a → (IsNoted old.noted → IsNoted (with_addition a old.noted)) → EachLife old.life (LifeIs kept)
    → Stores note a (record old { life = kept }) new (Err fault) → StandsFor note old o past → Faults (steps note o) past c (sort_of fault) fault old new
fails_stored note old new kept a fault o past c read up r adds fits same stored s =
    let f = free_now note old o past c up s r in
    unsaved note old new kept a fault o past c read up s f.0 (ap (λ n. addition_of n c) f.1 ∙ adds)
    (subst (λ n. IsNoted (with_addition a n)) (sym f.1) (fits (subst IsNoted f.1 s.durable.note))) same (sort_of fault) stored

-- The call is answered with a save.
pub answers_stored : {T : Type 0} (note : T → Note) (old new : PacketClient T) (kept after : Life) (a : Addition) (o : Opening) (past : List Entry) (c : PacketInput)
    (frames : List (List ℕ)) → SaysWhatIsWritten → old.durable.down ≡ false → refusal_by (not old.durable.down) old.peers old.noted c ≡ None
    → addition_of old.noted c ≡ Some a → (IsNoted old.noted → IsNoted (with_addition a old.noted)) → (u : Unit {0})
    → Stores note a (record old { life = kept }) new (Ok u)
    → EachLife old.life (λ deeds. frames ≡ frame_bytes (packets_for old.peers old.noted deeds c))
    → EachLife old.life (λ deeds. LifeIs after (deeds_of old.noted c ++ deeds))
    → granted_by c ≡ [] → StandsFor note old o past → Answers (steps note o) past c old (record new { life = after }) frames
answers_stored note old new kept after a o past c frames read up r adds fits u stored sends lives plain s =
    let f = free_now note old o past c up s r in
    record {
      free = f.0;
      sends = sends (life o past) f.3 ∙ ap (λ n. frame_bytes (packets_for n old.noted (life o past) c)) (sym f.2)
          ∙ ap (λ n. frame_bytes (packets_for (peers o past) n (life o past) c)) (sym f.1) ∙ sends_now o past c f.0;
      leaves = leaves_stored note old new kept a o past c (sym f.1) f.0 (ap (λ n. addition_of n c) f.1 ∙ adds) u stored;
      stands = stored_stands note old new kept after a o past c read up s f.0 (ap (λ n. addition_of n c) f.1 ∙ adds)
          (subst (λ n. IsNoted (with_addition a n)) (sym f.1) (fits (subst IsNoted f.1 s.durable.note))) u stored
          (subst (λ n. LifeIs after (deeds_of n c ++ life o past)) (sym f.1) (lives (life o past) f.3)) plain;
    }

-- The call is answered without a save.
pub answers_heard : {T : Type 0} (note : T → Note) (old : PacketClient T) (after : Life) (o : Opening) (past : List Entry) (c : PacketInput) (frames : List (List ℕ))
    → old.durable.down ≡ false → refusal_by (not old.durable.down) old.peers old.noted c ≡ None
    → addition_of old.noted c ≡ None
    → EachLife old.life (λ deeds. frames ≡ frame_bytes (packets_for old.peers old.noted deeds c))
    → EachLife old.life (λ deeds. LifeIs after (deeds_of old.noted c ++ deeds))
    → (with : Peers) → with ≡ peers o (answered_entry o past c ∷ past) → StandsFor note old o past
    → Answers (steps note o) past c old (record old { life = after; peers = with }) frames
answers_heard note old after o past c frames up r adds sends lives with is s =
    let f = free_now note old o past c up s r in
    record {
      free = f.0;
      sends = sends (life o past) f.3 ∙ ap (λ n. frame_bytes (packets_for n old.noted (life o past) c)) (sym f.2)
          ∙ ap (λ n. frame_bytes (packets_for (peers o past) n (life o past) c)) (sym f.1) ∙ sends_now o past c f.0;
      leaves = leaves_plain note old.durable.notes o past c f.0 (ap (λ n. addition_of n c) f.1 ∙ adds);
      stands = plain_stands note old after o past c up s f.0 (ap (λ n. addition_of n c) f.1 ∙ adds)
          (subst (λ n. LifeIs after (deeds_of n c ++ life o past)) (sym f.1) (lives (life o past) f.3)) with is;
    }

-- The call is answered without a save, and grants nothing.
pub answers_plain : {T : Type 0} (note : T → Note) (old : PacketClient T) (after : Life) (o : Opening) (past : List Entry) (c : PacketInput) (frames : List (List ℕ))
    → old.durable.down ≡ false → refusal_by (not old.durable.down) old.peers old.noted c ≡ None
    → addition_of old.noted c ≡ None
    → EachLife old.life (λ deeds. frames ≡ frame_bytes (packets_for old.peers old.noted deeds c))
    → EachLife old.life (λ deeds. LifeIs after (deeds_of old.noted c ++ deeds))
    → granted_by c ≡ [] → StandsFor note old o past → Answers (steps note o) past c old (record old { life = after }) frames
answers_plain note old after o past c frames up r adds sends lives plain s =
    let f = free_now note old o past c up s r in
    answers_heard note old after o past c frames up r adds sends lives old.peers (sym f.2 ∙ sym (peers_stay o past c (saved_for (due o past c)) plain)) s

-- What the mirror says is answered without a save, and may grant the generation.
pub answers_from_mirror : {T : Type 0} (note : T → Note) (old : PacketClient T) (after : Life) (o : Opening) (past : List Entry) (p : PacketParts) (body : Body)
    (frames : List (List ℕ)) (with : Peers) → p.body ≡ body → is_mirror p.from ≡ true → is_client p.to ≡ true
    → old.durable.down ≡ false → old.peers.mirror ≡ true → refusal_by (not old.durable.down) old.peers old.noted (Deliver p) ≡ None → addition_of old.noted (Deliver p) ≡ None
    → EachLife old.life (λ deeds. frames ≡ frame_bytes (packets_for old.peers old.noted deeds (Deliver p)))
    → EachLife old.life (λ deeds. LifeIs after (deeds_of old.noted (Deliver p) ++ deeds))
    → with ≡ after_grant old.noted.generation body old.peers → StandsFor note old o past
    → Answers (steps note o) past (Deliver p) old (record old { life = after; peers = with }) frames
answers_from_mirror note old after o past p body frames with e from to up mirror r adds sends lives is s =
    let k = knows_now note old o past up s in
    let has : has_mirror past ≡ true = ap (λ (x : Peers). x.mirror) (sym k.peers) ∙ mirror in
    let heard = heard_peers o past p (saved_for (due o past (Deliver p))) k.on has to from in
    answers_heard note old after o past (Deliver p) frames up r adds sends lives with
    (is ∙ ap (λ (n : ClientNote). after_grant n.generation body old.peers) k.knows ∙ ap (λ b. after_grant (words_noted o past).generation b old.peers) (sym e)
    ∙ ap (after_grant (words_noted o past).generation p.body) k.peers ∙ sym heard) s
