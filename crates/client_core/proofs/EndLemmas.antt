-- Which lists a client stands for behind a call.
use Rattle.std.proofs.Common.{◌≡◌, ◌⊎◌, inl, inr, refl, sym, ap, subst, ◌∙◌, ◌≤◌, Bool, true, false, ◌&&◌, List, [], ◌∷◌, ◌++◌, Option, None, Some}
use Rattle.std.specs.Prelude.{if◌then◌else◌, not, is_none, Ok}
use Rattle.fc_base.specs.declared.limits.TheConstants.{MAX_SERVERS}
use Rattle.fc_base.specs.declared.fault.Fault.{Fault}
use Rattle.fc_base.specs.declared.fault.Fault.TheVariants.{NoMemory}
use Rattle.fc_base.specs.declared.fault.FaultSort.{FaultSort}
use Rattle.fc_base.specs.declared.fault.FaultSort.TheVariants as sorts
use Rattle.fc_base.specs.Fault.{sort_of}
use Rattle.disk_model.specs.declared.save_outcome.SaveOutcome.{SaveOutcome}
use Rattle.disk_model.specs.declared.save_outcome.SaveOutcome.TheVariants.{NoSave, LostNew, LostOld}
use Rattle.disk_model.specs.SaveOutcome.{saved_for, is_lost, has_new, bytes_left}
use Rattle.disk_model.specs.Notes.{Note}
use Rattle.node.specs.Saving.{Unsaved}
use Rattle.node.specs.Steps.{LeavesNote, Fails, Faults}
use Rattle.node.proofs.StepLemmas.{and_true, is_own_answer, not_lost, lost_off}
use Rattle.client_core.specs.Inputs.{PacketInput}
use Rattle.client_core.specs.declared.packet_client.PacketClient.{PacketClient}
use Rattle.client_core.specs.declared.life.Life.{Life}
use Rattle.client_core.specs.declared.note.ClientNote.{ClientNote}
use Rattle.client_core.specs.Note.{IsNoted, Says, SaysWhatIsWritten, spelling}
use Rattle.client_core.specs.History.{Opening, Entry, Met}
use Rattle.client_core.specs.Framed.{frame_bytes}
use Rattle.client_core.specs.Life.{life, deeds_of}
use Rattle.client_core.specs.Lives.{LifeIs, EachLife}
use Rattle.client_core.specs.Refusals.{refusal_by}
use Rattle.client_core.specs.Saves.{Addition, with_addition, addition_of, unless_refused, noted_after, is_answer}
use Rattle.client_core.specs.declared.peers.Peers.{Peers}
use Rattle.client_core.specs.Words.{is_on, granted_by, words_noted, shown_entries, refusal, due, is_answered, peers}
use Rattle.client_core.specs.Packets.{packets, packets_for}
use Rattle.client_core.specs.Stands.{StandsFor}
use Rattle.client_core.specs.Ends.{answered_entry, steps, save_of, Stores}
use Rattle.client_core.proofs.Looked.{looks_at_all}
use Rattle.client_core.proofs.PeersLemmas.{peers_stay, refused_peers}
use Rattle.client_core.proofs.RefusalLemmas.{refusal_is, refusal_sort}

-- ---- what a client that is up keeps

is_up : (b : Bool) → false ≡ not b → b ≡ true
is_up true e = refl
is_up false e = cc

-- What a client that is up keeps is what its list says.
pub record Knows {T : Type 0} (note : T → Note) (client : PacketClient T) (o : Opening) (past : List Entry) : Type 0 where
  pub on : is_on past ≡ true
  pub peers : client.peers ≡ peers o past
  pub knows : client.noted ≡ words_noted o past
  pub lives : LifeIs client.life (life o past)

pub knows_now : {T : Type 0} (note : T → Note) (client : PacketClient T) (o : Opening) (past : List Entry) → client.durable.down ≡ false → StandsFor note client o past
    → Knows note client o past
knows_now note client o past up s =
    let on = is_up (is_on past) (sym up ∙ s.on) in
    record {
      on = on;
      peers = s.peers ∙ ap (peers o) (looks_at_all past on);
      knows = s.knows ∙ ap (words_noted o) (looks_at_all past on);
      lives = subst (λ p. LifeIs client.life (life o p)) (looks_at_all past on) s.lives;
    }

-- ---- one entry more

after_none : (new : Bool) (d : Option Addition) (n : ClientNote) → new ≡ false → noted_after new d n ≡ n
after_none new None n e = refl
after_none true (Some a) n e = cc
after_none false (Some a) n e = refl

not_answered : (r : Option Fault) (fault : Fault) (b : Bool) → r ≡ Some fault → (is_none r && b) ≡ false
not_answered None fault b e = cc
not_answered (Some g) fault b e = refl

-- A refused call in the list changes none of its words.
pub refused_stands : {T : Type 0} (note : T → Note) (client : PacketClient T) (o : Opening) (past : List Entry) (c : PacketInput) (fault : Fault)
    → refusal o past c ≡ Some fault → StandsFor note client o past → StandsFor note client o (Met c NoSave ∷ past)
refused_stands note client o past c fault r s = record {
  on = s.on ∙ ap not (sym (and_true (is_on past)));
  peers = s.peers ∙ sym (by_on (is_on past) (peers o) (shown_entries past)
      (λ on. refused_peers o past c NoSave fault r ∙ ap (peers o) (sym (looks_at_all past on))));
  few = s.few;
  durable = subst (λ n. Says (note client.durable.notes).bytes n) (sym same_noted) s.durable;
  knows = s.knows ∙ sym (by_on (is_on past) (words_noted o) (shown_entries past) (λ on. same_noted ∙ ap (words_noted o) (sym (looks_at_all past on))));
  lives = subst (LifeIs client.life) (sym (by_on (is_on past) (life o) (shown_entries past) (λ on. same_life ∙ ap (life o) (sym (looks_at_all past on)))))
      s.lives;
}
  where
    same_noted : words_noted o (Met c NoSave ∷ past) ≡ words_noted o past
    same_noted = after_none false (due o past c) (words_noted o past) refl

    same_life : life o (Met c NoSave ∷ past) ≡ life o past
    same_life = ap (λ b. if b then deeds_of (words_noted o past) c ++ life o past else life o past) (not_answered (refusal o past c) fault _ r)

    by_on : {A : Type 0} (b : Bool) (f : List Entry → A) (y : List Entry) → (b ≡ true → f (Met c NoSave ∷ past) ≡ f y)
        → f (if b then Met c NoSave ∷ past else y) ≡ f y
    by_on true f y e = e refl
    by_on false f y e = refl

pub is_answered_now : (o : Opening) (past : List Entry) (c : PacketInput) → refusal o past c ≡ None → is_answered o past c (saved_for (due o past c)) ≡ true
is_answered_now o past c free = ap (λ r. is_none r && is_answer (due o past c) (saved_for (due o past c))) free ∙ is_own_answer (due o past c)

pub due_now : (o : Opening) (past : List Entry) (c : PacketInput) → refusal o past c ≡ None → due o past c ≡ addition_of (words_noted o past) c
due_now o past c free = ap (λ r. unless_refused r (addition_of (words_noted o past) c)) free

-- What an answered call sends.
pub sends_now : (o : Opening) (past : List Entry) (c : PacketInput) → refusal o past c ≡ None
    → frame_bytes (packets_for (peers o past) (words_noted o past) (life o past) c) ≡ frame_bytes (packets o past (answered_entry o past c))
sends_now o past c free =
    ap (λ b. frame_bytes (if b then packets_for (peers o past) (words_noted o past) (life o past) c else [])) (sym (is_answered_now o past c free))

new_noted : (d : Option Addition) (n : ClientNote) → noted_after (has_new (saved_for d)) d n ≡ noted_after true d n
new_noted None n = refl
new_noted (Some a) n = refl

-- An answered call is added, where what is kept and noted is what it leaves.
pub answered_stands : {T : Type 0} (note : T → Note) (client : PacketClient T) (o : Opening) (past : List Entry) (c : PacketInput) → refusal o past c ≡ None
    → is_on past ≡ true → client.durable.down ≡ false → client.peers ≡ peers o (answered_entry o past c ∷ past) → o.servers ≤ MAX_SERVERS
    → Says (note client.durable.notes).bytes (noted_after true (addition_of (words_noted o past) c) (words_noted o past))
    → client.noted ≡ noted_after true (addition_of (words_noted o past) c) (words_noted o past)
    → LifeIs client.life (deeds_of (words_noted o past) c ++ life o past)
    → StandsFor note client o (answered_entry o past c ∷ past)
answered_stands note client o past c free on up with few says knows lives = record {
  on = up ∙ sym (ap not (ap (λ b. b && not (is_lost (saved_for (due o past c)))) on ∙ ap not (not_lost (due o past c))));
  peers = with ∙ sym (ap (peers o) look);
  few = few;
  durable = subst (Says (note client.durable.notes).bytes) (sym noted_is) says;
  knows = knows ∙ sym (ap (words_noted o) look ∙ noted_is);
  lives = subst (LifeIs client.life) (sym (ap (life o) look ∙ life_is)) lives;
}
  where
    noted_is : words_noted o (answered_entry o past c ∷ past) ≡ noted_after true (addition_of (words_noted o past) c) (words_noted o past)
    noted_is = new_noted (due o past c) (words_noted o past) ∙ ap (λ d. noted_after true d (words_noted o past)) (due_now o past c free)

    life_is : life o (answered_entry o past c ∷ past) ≡ deeds_of (words_noted o past) c ++ life o past
    life_is = ap (λ b. if b then deeds_of (words_noted o past) c ++ life o past else life o past) (is_answered_now o past c free)

    look : shown_entries (answered_entry o past c ∷ past) ≡ answered_entry o past c ∷ past
    look = ap (λ b. if b then (if is_lost (saved_for (due o past c)) then past else answered_entry o past c ∷ past) else shown_entries past) on
        ∙ ap (λ b. if b then past else answered_entry o past c ∷ past) (not_lost (due o past c))

-- ---- calls that aren't answered

pub refuses : {T : Type 0} (note : T → Note) (client : PacketClient T) (o : Opening) (past : List Entry) (c : PacketInput) (fault : Fault)
    → refusal_by (not client.durable.down) client.peers client.noted c ≡ Some fault → StandsFor note client o past
    → Faults (steps note o) past c (sort_of fault) fault client client
refuses note client o past c fault r s =
    let why = sym (refusal_is note client o past c s) ∙ r in
    subst (λ t. Faults (steps note o) past c t fault client client) (sym (refusal_sort (not client.durable.down) client.peers client.noted c fault r))
    (record { why = why; same_note = refl; unchanged = s; stands = refused_stands note client o past c fault why s })

pub with_life : {T : Type 0} (note : T → Note) (client : PacketClient T) (kept : Life) (o : Opening) (past : List Entry) → EachLife client.life (LifeIs kept)
    → StandsFor note client o past → StandsFor note (record client { life = kept }) o past
with_life note client kept o past same s =
    record { on = s.on; peers = s.peers; few = s.few; durable = s.durable; knows = s.knows; lives = same (life o (shown_entries past)) s.lives }

pub lacks : {T : Type 0} (note : T → Note) (client : PacketClient T) (kept : Life) (o : Opening) (past : List Entry) (c : PacketInput)
    → EachLife client.life (LifeIs kept) → StandsFor note client o past
    → Faults (steps note o) past c sorts.Memory NoMemory client (record client { life = kept })
lacks note client kept o past c same s = record { why = refl; same_note = refl; unchanged = with_life note client kept o past same s }

-- ---- a save

-- A client that is down at a failed save stands for the list with what was lost.
lost_stands : {T : Type 0} (note : T → Note) (client : PacketClient T) (notes : T) (o : Opening) (past : List Entry) (c : PacketInput) (left : SaveOutcome)
    → is_on past ≡ true → is_lost left ≡ true → StandsFor note client o past
    → Says (note notes).bytes (noted_after (has_new left) (due o past c) (words_noted o past))
    → StandsFor note (record client { durable = record { notes = notes; down = true } }) o (Met c left ∷ past)
lost_stands note client notes o past c left on lost s says = record {
  on = lost_off (is_on past) left lost;
  peers = s.peers ∙ ap (peers o) (looks_at_all past on ∙ sym look);
  few = s.few;
  durable = says;
  knows = s.knows ∙ ap (words_noted o) (looks_at_all past on ∙ sym look);
  lives = subst (λ p. LifeIs client.life (life o p)) (looks_at_all past on ∙ sym look) s.lives;
}
  where
    look : shown_entries (Met c left ∷ past) ≡ past
    look = ap (λ b. if b then (if is_lost left then past else Met c left ∷ past) else shown_entries past) on
        ∙ ap (λ b. if b then past else Met c left ∷ past) lost

-- A call whose save isn't answered.
pub unsaved : {T : Type 0} (note : T → Note) (old new : PacketClient T) (kept : Life) (a : Addition) (fault : Fault) (o : Opening) (past : List Entry)
    (c : PacketInput) → SaysWhatIsWritten → old.durable.down ≡ false → StandsFor note old o past → refusal o past c ≡ None
    → addition_of (words_noted o past) c ≡ Some a → IsNoted (with_addition a (words_noted o past)) → EachLife old.life (LifeIs kept) → (t : FaultSort)
    → Unsaved (λ k. note k.durable.notes) (save_of (with_addition a old.noted) (record old { life = kept }) new) t fault (record old { life = kept }) new
    → Faults (steps note o) past c t fault old new
unsaved note old new kept a fault o past c read up s free adds fits same sorts.Memory u = record {
  why = u.0;
  same_note = u.1;
  unchanged = subst (λ k. StandsFor note k o past) (sym u.2)
      (record {
        on = s.on;
        peers = s.peers;
        few = s.few;
        durable = subst (λ (n : Note). Says n.bytes (words_noted o past)) (sym u.1) s.durable;
        knows = s.knows;
        lives = same (life o (shown_entries past)) s.lives;
      });
}
unsaved note old new kept a fault o past c read up s free adds fits same sorts.Refusal u = absurd u
unsaved note old new kept a fault o past c read up s free adds fits same sorts.Save u = by_bytes u.1
  where
    k : Knows note old o past
    k = knows_now note old o past up s

    makes_one : due o past c ≡ Some a
    makes_one = due_now o past c free ∙ adds

    failed : (left : SaveOutcome) → is_lost left ≡ true → (note new.durable.notes).bytes
        ≡ bytes_left left (spelling (noted_after (has_new left) (Some a) (words_noted o past))) (note old.durable.notes).bytes
        → Says (note new.durable.notes).bytes (noted_after (has_new left) (Some a) (words_noted o past)) → Fails (steps note o) past c old new
    failed left lost bytes says = record {
      cause = u.0;
      free = free;
      addition = a;
      makes_one = makes_one;
      left = left;
      lost = lost;
      bytes_are = subst (λ d. (note new.durable.notes).bytes ≡ bytes_left left (spelling (noted_after (has_new left) d (words_noted o past))) (note old.durable.notes).bytes)
          (sym makes_one) bytes;
      stands = subst (λ x. StandsFor note x o (Met c left ∷ past)) (sym u.2)
          (lost_stands note (record old { life = kept }) new.durable.notes o past c left k.on lost (with_life note old kept o past same s)
          (subst (λ d. Says (note new.durable.notes).bytes (noted_after (has_new left) d (words_noted o past))) (sym makes_one) says));
    }

    by_bytes : ((note new.durable.notes).bytes ≡ (note old.durable.notes).bytes) ⊎ ((note new.durable.notes).bytes ≡ spelling (with_addition a old.noted))
        → Fails (steps note o) past c old new
    by_bytes (inl e) = failed LostOld refl e (subst (λ bytes. Says bytes (words_noted o past)) (sym e) s.durable)
    by_bytes (inr e) =
        let is : (note new.durable.notes).bytes ≡ spelling (with_addition a (words_noted o past)) = e ∙ ap (λ n. spelling (with_addition a n)) k.knows in
        failed LostNew refl is (subst (λ bytes. Says bytes (with_addition a (words_noted o past))) (sym is) (read (with_addition a (words_noted o past)) fits))

-- What a call leaves of the note.
pub leaves_plain : {T : Type 0} (note : T → Note) (notes : T) (o : Opening) (past : List Entry) (c : PacketInput) → refusal o past c ≡ None
    → addition_of (words_noted o past) c ≡ None
    → LeavesNote (due o past c) (spelling (words_noted o (answered_entry o past c ∷ past))) (note notes) (note notes)
leaves_plain note notes o past c free adds =
    subst (λ d. LeavesNote d (spelling (words_noted o (answered_entry o past c ∷ past))) (note notes) (note notes)) (sym (due_now o past c free ∙ adds)) refl

pub leaves_stored : {T : Type 0} (note : T → Note) (old new : PacketClient T) (kept : Life) (a : Addition) (o : Opening) (past : List Entry) (c : PacketInput)
    → old.noted ≡ words_noted o past → refusal o past c ≡ None → addition_of (words_noted o past) c ≡ Some a
    → (r : Unit {0}) → Stores note a (record old { life = kept }) new (Ok r)
    → LeavesNote (due o past c) (spelling (words_noted o (answered_entry o past c ∷ past))) (note old.durable.notes) (note new.durable.notes)
leaves_stored note old new kept a o past c knows free adds r stored =
    subst (λ d. LeavesNote d (spelling (noted_after (has_new (saved_for d)) d (words_noted o past))) (note old.durable.notes) (note new.durable.notes))
    (sym (due_now o past c free ∙ adds))
    (stored.0 ∙ ap (λ n. record (note old.durable.notes) { bytes = spelling (with_addition a n) }) knows)

-- A call that is answered with a save.
pub stored_stands : {T : Type 0} (note : T → Note) (old new : PacketClient T) (kept after : Life) (a : Addition) (o : Opening) (past : List Entry) (c : PacketInput)
    → SaysWhatIsWritten → old.durable.down ≡ false → StandsFor note old o past → refusal o past c ≡ None
    → addition_of (words_noted o past) c ≡ Some a → IsNoted (with_addition a (words_noted o past)) → (r : Unit {0})
    → Stores note a (record old { life = kept }) new (Ok r)
    → LifeIs after (deeds_of (words_noted o past) c ++ life o past) → granted_by c ≡ []
    → StandsFor note (record new { life = after }) o (answered_entry o past c ∷ past)
stored_stands note old new kept after a o past c read up s free adds fits r stored lives plain =
    let k = knows_now note old o past up s in
    let is : with_addition a old.noted ≡ with_addition a (words_noted o past) = ap (with_addition a) k.knows in
    let grown : with_addition a (words_noted o past) ≡ noted_after true (addition_of (words_noted o past) c) (words_noted o past) =
    ap (λ d. noted_after true d (words_noted o past)) (sym adds) in
    answered_stands note (record new { life = after }) o past c free k.on
    (ap (λ (m : PacketClient _). m.durable.down) stored.1 ∙ up) (ap (λ (m : PacketClient _). m.peers) stored.1
    ∙ (k.peers ∙ sym (peers_stay o past c (saved_for (due o past c)) plain))) s.few
    (subst (λ bytes. Says bytes (noted_after true (addition_of (words_noted o past) c) (words_noted o past)))
    (sym (ap (λ (n : Note). n.bytes) stored.0 ∙ ap spelling is))
    (subst (Says (spelling (with_addition a (words_noted o past)))) grown (read (with_addition a (words_noted o past)) fits)))
    (ap (λ (m : PacketClient _). m.noted) stored.1 ∙ is ∙ grown) lives

-- A call that is answered without a save.
pub plain_stands : {T : Type 0} (note : T → Note) (old : PacketClient T) (after : Life) (o : Opening) (past : List Entry) (c : PacketInput) → old.durable.down ≡ false
    → StandsFor note old o past → refusal o past c ≡ None → addition_of (words_noted o past) c ≡ None
    → LifeIs after (deeds_of (words_noted o past) c ++ life o past) → (with : Peers) → with ≡ peers o (answered_entry o past c ∷ past)
    → StandsFor note (record old { life = after; peers = with }) o (answered_entry o past c ∷ past)
plain_stands note old after o past c up s free adds lives with is =
    let k = knows_now note old o past up s in
    let same : words_noted o past ≡ noted_after true (addition_of (words_noted o past) c) (words_noted o past) =
    ap (λ d. noted_after true d (words_noted o past)) (sym adds) in
    answered_stands note (record old { life = after; peers = with }) o past c free k.on up is s.few (subst (Says (note old.durable.notes).bytes) same s.durable)
    (k.knows ∙ same) lives
