-- A node ends as the core that hears in it.
use Rattle.std.proofs.Common.{◌≡◌, refl, sym, ◌∙◌, ap, subst, ℕ, List, [], ◌∷◌, Option, None}
use Rattle.std.specs.Prelude.{map}
use Rattle.std.specs.List.{flat_map}
use Rattle.fc_base.specs.declared.fault.Fault.{Fault}
use Rattle.fc_base.specs.declared.fault.FaultSort.{FaultSort}
use Rattle.fc_base.specs.declared.fault.FaultSort.TheVariants as sorts
use Rattle.disk_model.specs.declared.save_outcome.SaveOutcome.{SaveOutcome}
use Rattle.disk_model.specs.declared.save_outcome.SaveOutcome.TheVariants.{NoSave}
use Rattle.disk_model.specs.SaveOutcome.{saved_for, bytes_left}
use Rattle.node.specs.Steps.{LeavesNote, Answers, Faults, answered}
use Rattle.messages.specs.declared.packet.PacketParts.{PacketParts}
use Rattle.messages.specs.FrameBytes.{frame_spelling}
use Rattle.messages.specs.FramesOf.{spelled_frames}
use Rattle.messages.specs.Hearing.{Coming, entry_of, frames_by}
use Rattle.messages.specs.Senses.{Arrival, Sense, Hears, Keeps, Drops, Misses, coming, heard_or}
use Rattle.messages.proofs.HearingLemmas.{frames_spelled}
use Rattle.messages.proofs.SenseLemmas.{entry_by, entry_is}
use Rattle.node.specs.Hearers as hearers
use Rattle.node.specs.Hearers.{CoreKind, StandsFor, rules_of, heard_at, entries, sense}
use Rattle.node.specs.Nodes.{Node, steps}

-- What comes to the node is, as an entry, what comes to its core.
abbrev pub IsMet : {S I F C X E D O : Type 0} → Node S I F C X E D O → Type 0
IsMet {S} {I} n = (e : I) (left : SaveOutcome) → n.coming (n.met e left) ≡ coming n.kind.core.words.met (n.arrival e) left

module _ {S I F C X E D O : Type 0} (n : Node S I F C X E D O) (same : IsMet n) (past : List F) (e : I) (old new : S) where
  stands : (left : SaveOutcome) → StandsFor n.kind (coming n.kind.core.words.met (n.arrival e) left ∷ map n.coming past) (n.hearer new)
      → StandsFor n.kind (n.coming (n.met e left) ∷ map n.coming past) (n.hearer new)
  stands left h = subst (λ c. StandsFor n.kind (c ∷ map n.coming past) (n.hearer new)) (sym (same e left)) h

  pub answers : (outs : O) → n.Sends past e outs
      → Answers (hearers.steps n.kind) (map n.coming past) (n.arrival e) (n.hearer old) (n.hearer new) outs → Answers (steps n) past e old new outs
  answers outs sends h = record {
    free = h.free;
    sends = sends;
    leaves = subst (λ c. LeavesNote ((steps n).words.due past e) (n.kind.core.words.spelled (entries n.kind (c ∷ map n.coming past)))
        ((steps n).note old) ((steps n).note new)) (sym (same e (saved_for ((steps n).words.due past e)))) h.leaves;
    stands = stands (saved_for ((steps n).words.due past e)) h.stands;
  }

  pub faults : (sort : FaultSort) (fault : Fault)
      → Faults (hearers.steps n.kind) (map n.coming past) (n.arrival e) sort fault (n.hearer old) (n.hearer new) → Faults (steps n) past e sort fault old new
  faults sorts.Memory fault h = record { why = h.why; same_note = h.same_note; unchanged = h.unchanged }
  faults sorts.Save fault h = record {
    cause = h.cause;
    free = h.free;
    addition = h.addition;
    makes_one = h.makes_one;
    left = h.left;
    lost = h.lost;
    bytes_are = subst (λ c. ((steps n).note new).bytes
        ≡ bytes_left h.left (n.kind.core.words.spelled (entries n.kind (c ∷ map n.coming past))) ((steps n).note old).bytes) (sym (same e h.left)) h.bytes_are;
    stands = stands h.left h.stands;
  }
  faults sorts.Refusal fault h = record { why = h.why; same_note = h.same_note; unchanged = h.unchanged; stands = stands NoSave h.stands }

-- ---- the frames that are sent

-- What a core sends with what it hears, and saves, where these are its packets.
abbrev pub sent_with : {C X E D O : Type 0} → CoreKind C X E D O → (List E → E → List PacketParts) → List E → Sense X → List (List ℕ)
sent_with k packets past s = heard_or [] (λ x. flat_map spelled_frames (packets past (k.core.words.met x (saved_for (k.core.words.due past x))))) s

spelled : {C X E D O : Type 0} (k : CoreKind C X E D O) (packets : List E → E → List PacketParts) (past : List E) (s : Sense X)
    → map frame_spelling (frames_by packets past (entry_by (rules_of k) (saved_for (heard_or None (k.core.words.due past) s)) s)) ≡ sent_with k packets past s
spelled k packets past (Hears x) = sym (frames_spelled (packets past (k.core.words.met x (saved_for (k.core.words.due past x)))))
spelled k packets past Keeps = refl
spelled k packets past Drops = refl
spelled k packets past Misses = refl

-- They are the frames of the entry that is heard.
pub sent : {C X E D O : Type 0} (k : CoreKind C X E D O) (packets : List E → E → List PacketParts) (past : List (Coming E SaveOutcome)) (a : Arrival X) (s : Sense X)
    → sense k past a ≡ s
    → sent_with k packets (entries k past) s
    ≡ map frame_spelling (frames_by packets (entries k past) (entry_of (rules_of k) (heard_at k past) (answered (hearers.steps k).words past a)))
sent {E = E} k packets past a s is =
    let list = entries k past in
    let frames : Option E → List (List ℕ) = λ e. map frame_spelling (frames_by packets list e) in
    sym (ap frames (entry_is (rules_of k) (heard_at k past) a (saved_for ((hearers.steps k).words.due past a)))
    ∙ ap (λ s. frames (entry_by (rules_of k) (saved_for (heard_or None (k.core.words.due list) s)) s)) is
    ∙ spelled k packets list s)
