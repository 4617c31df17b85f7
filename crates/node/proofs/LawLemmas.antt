-- A node whose core hears frames keeps the laws of a node, where its core does over packets.
use Rattle.std.proofs.Common.{◌≡◌, refl, sym, ◌∙◌, ap, subst, Bool, true, false, ◌&&◌, List, ◌∷◌, None}
use Rattle.std.specs.Prelude.{map, not, is_some}
use Rattle.disk_model.specs.declared.save_outcome.SaveOutcome.{SaveOutcome}
use Rattle.disk_model.specs.declared.save_outcome.SaveOutcome.TheVariants.{Saved, LostNew, LostOld}
use Rattle.disk_model.specs.SaveOutcome.{is_lost}
use Rattle.messages.specs.Hearing.{with_entry}
use Rattle.messages.specs.Senses.{Sense, Hears, Keeps, Drops, Misses, refusal_of_sense, heard_or}
use Rattle.messages.proofs.SenseLemmas.{entry_by, entries_are}
use Rattle.node.specs.Hearers.{CoreKind, Laws, rules_of, heard_at, entries, sense}
use Rattle.node.specs.Nodes.{Node, words}
use Rattle.node.proofs.NodeLemmas.{IsMet}

-- What is kept of saves by the lists of a core over packets, where notes say this of a list: what is due isn't refused; and a lost save leaves what
-- was noted before, or, where it had landed, what it would have left.
pub record Saving {C X E D O N : Type 0} (k : CoreKind C X E D O) (Says : List E → N → Type 0) : Type 0 where
  pub free : (list : List E) (x : X) → is_some (k.core.words.due list x) ≡ true → k.core.words.refusal list x ≡ None
  pub new : (list : List E) (x : X) (notes : N) → Says (k.core.words.met x Saved ∷ list) notes → Says (k.core.words.met x LostNew ∷ list) notes
  pub old : (list : List E) (x : X) (notes : N) → Says list notes → Says (k.core.words.met x LostOld ∷ list) notes

on_still : (on lost : Bool) → lost ≡ false → on ≡ true → (on && not lost) ≡ true
on_still true false h k = refl
on_still true true h k = cc
on_still false lost h k = cc

on_no_more : (on lost : Bool) → lost ≡ true → (on && not lost) ≡ false
on_no_more true true h = refl
on_no_more false true h = refl
on_no_more on false h = absurd cc

module _ {C X E D O N : Type 0} (k : CoreKind C X E D O) (laws : Laws k) (Says : List E → N → Type 0) (saving : Saving k Says) (list : List E) where
  heard_stays : (left : SaveOutcome) (s : Sense X) → is_lost left ≡ false → k.core.words.is_up list ≡ true
      → k.core.words.is_up (with_entry (entry_by (rules_of k) left s) list) ≡ true
  heard_stays left (Hears x) h on = laws.on_behind list x left ∙ on_still (k.core.words.is_up list) (is_lost left) h on
  heard_stays left Keeps h on = on
  heard_stays left Drops h on = on
  heard_stays left Misses h on = on

  heard_falls : (left : SaveOutcome) (s : Sense X) → is_lost left ≡ true → is_some (heard_or None (k.core.words.due list) s) ≡ true
      → k.core.words.is_up (with_entry (entry_by (rules_of k) left s) list) ≡ false
  heard_falls left (Hears x) h due = laws.on_behind list x left ∙ on_no_more (k.core.words.is_up list) (is_lost left) h
  heard_falls left Keeps h due = absurd cc
  heard_falls left Drops h due = absurd cc
  heard_falls left Misses h due = absurd cc

  heard_free : (s : Sense X) → is_some (heard_or None (k.core.words.due list) s) ≡ true → refusal_of_sense (rules_of k) list s ≡ None
  heard_free (Hears x) due = saving.free list x due
  heard_free Keeps due = refl
  heard_free Drops due = absurd cc
  heard_free Misses due = absurd cc

  heard_new : (s : Sense X) (notes : N) → Says (with_entry (entry_by (rules_of k) Saved s) list) notes
      → Says (with_entry (entry_by (rules_of k) LostNew s) list) notes
  heard_new (Hears x) notes h = saving.new list x notes h
  heard_new Keeps notes h = h
  heard_new Drops notes h = h
  heard_new Misses notes h = h

  heard_old : (s : Sense X) (notes : N) → Says list notes → Says (with_entry (entry_by (rules_of k) LostOld s) list) notes
  heard_old (Hears x) notes h = saving.old list x notes h
  heard_old Keeps notes h = h
  heard_old Drops notes h = h
  heard_old Misses notes h = h

module _ {S I F C X E D O N : Type 0} (n : Node S I F C X E D O) (same : IsMet n) (laws : Laws n.kind) (Says : List E → N → Type 0)
    (saving : Saving n.kind Says) (past : List F) (e : I) where
  behind : (left : SaveOutcome) → entries n.kind (n.coming (n.met e left) ∷ map n.coming past)
      ≡ with_entry (entry_by (rules_of n.kind) left (sense n.kind (map n.coming past) (n.arrival e))) (entries n.kind (map n.coming past))
  behind left = ap (λ c. entries n.kind (c ∷ map n.coming past)) (same e left)
      ∙ entries_are (rules_of n.kind) (heard_at n.kind (map n.coming past)) (n.arrival e) left (sense n.kind (map n.coming past) (n.arrival e)) refl

  pub free : is_some ((words n).due past e) ≡ true → (words n).refusal past e ≡ None
  free due = heard_free n.kind laws Says saving (entries n.kind (map n.coming past)) (sense n.kind (map n.coming past) (n.arrival e)) due

  pub stays : (left : SaveOutcome) → is_lost left ≡ false → (words n).is_up past ≡ true → (words n).is_up (n.met e left ∷ past) ≡ true
  stays left h on = ap n.kind.core.words.is_up (behind left)
      ∙ heard_stays n.kind laws Says saving (entries n.kind (map n.coming past)) left (sense n.kind (map n.coming past) (n.arrival e)) h on

  pub falls : (left : SaveOutcome) → is_lost left ≡ true → is_some ((words n).due past e) ≡ true → (words n).is_up (n.met e left ∷ past) ≡ false
  falls left h due = ap n.kind.core.words.is_up (behind left)
      ∙ heard_falls n.kind laws Says saving (entries n.kind (map n.coming past)) left (sense n.kind (map n.coming past) (n.arrival e)) h due

  pub new : (notes : N) → Says (entries n.kind (map n.coming (n.met e Saved ∷ past))) notes
      → Says (entries n.kind (map n.coming (n.met e LostNew ∷ past))) notes
  new notes h = subst (λ list. Says list notes) (sym (behind LostNew))
      (heard_new n.kind laws Says saving (entries n.kind (map n.coming past)) (sense n.kind (map n.coming past) (n.arrival e)) notes
      (subst (λ list. Says list notes) (behind Saved) h))

  pub old : (notes : N) → Says (entries n.kind (map n.coming past)) notes → Says (entries n.kind (map n.coming (n.met e LostOld ∷ past))) notes
  old notes h = subst (λ list. Says list notes) (sym (behind LostOld))
      (heard_old n.kind laws Says saving (entries n.kind (map n.coming past)) (sense n.kind (map n.coming past) (n.arrival e)) notes h)
