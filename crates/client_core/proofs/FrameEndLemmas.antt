-- A client takes what comes over a network of frames as its list does.
use Rattle.std.proofs.Common.{◌≡◌, refl, sym, ◌∙◌, ap, subst, ℕ, arith, List, ◌∷◌, Result, Ok, Err}
use Rattle.std.specs.Prelude.{map}
use Rattle.fc_base.specs.declared.limits.TheConstants.{MAX_SERVERS}
use Rattle.fc_base.specs.declared.fault.Fault.{Fault}
use Rattle.fc_base.specs.Fault.{sort_of}
use Rattle.disk_model.specs.declared.save_outcome.SaveOutcome.{SaveOutcome}
use Rattle.disk_model.specs.SaveOutcome.{saved_for}
use Rattle.disk_model.specs.Notes.{Note}
use Rattle.node.specs.Steps.{Ends, EndsWithNumber}
use Rattle.messages.specs.Hearing.{Meaning, Says, Waits, Spoils, Strays, meaning}
use Rattle.messages.specs.Senses.{Sense, Hears, Keeps, Drops, Misses, Unframed, sense_of, heard_or, SenseInRange, HearsInRange}
use Rattle.messages.proofs.SenseLemmas.{hears_in_range}
use Rattle.node.specs.Hearers as hearers
use Rattle.node.proofs.HearerLemmas.{with_core, unframed_ends}
use Rattle.node.proofs.NodeLemmas.{answers, faults, sent}
use Rattle.client_core.specs.Inputs.{PacketInput, FrameInput, Begin, Trigger, Stop, Verify, Deliver, Tick}
use Rattle.client_core.specs.Inputs as inputs
use Rattle.client_core.specs.declared.packet_client.PacketClient.{PacketClient}
use Rattle.client_core.specs.declared.client.Client.{Client}
use Rattle.client_core.specs.History as history
use Rattle.client_core.specs.History.{Opening}
use Rattle.client_core.specs.Words as words
use Rattle.client_core.specs.Packets.{packets}
use Rattle.client_core.specs.Ranges.{IsInRange, CameInRange}
use Rattle.client_core.specs.Ends as whole
use Rattle.client_core.specs.Bounds.{AreShort, FramesAreShort}
use Rattle.client_core.specs.Bounds as bounds
use Rattle.client_core.specs.Hearing.{FrameEntry, rules, arrival, coming_of, heard_at, packets_heard}
use Rattle.client_core.specs.FrameAnswers.{sense}
use Rattle.client_core.specs.HearingKind.{hearing_kind, hearing_laws}
use Rattle.client_core.specs.FrameEnds.{StandsFor, Sends, most_packets, client_node, steps}

came_with : (c : PacketInput) (left : SaveOutcome) (past : List history.Entry) → IsInRange c → CameInRange past → CameInRange (history.Met c left ∷ past)
came_with (inputs.Begin text) left past b h = h
came_with (inputs.Trigger run act) left past b h = h
came_with (inputs.Stop run) left past b h = h
came_with (inputs.Verify run text) left past b h = h
came_with (inputs.Deliver p) left past b h = (b, h)
came_with inputs.Tick left past b h = h

-- How many packets at most, by what the input is.
abbrev most_in : Opening → List history.Entry → Sense PacketInput → ℕ
most_in o past s = heard_or MAX_SERVERS (bounds.most_packets o past) s

meaning_most : (o : Opening) (past : List history.Entry) (m : Meaning) → most_in o past (sense_of inputs.Deliver m) ≡ MAX_SERVERS
meaning_most o past (Says p) = refl
meaning_most o past Waits = refl
meaning_most o past Spoils = refl
meaning_most o past Strays = refl

most_is : (o : Opening) (past : List FrameEntry) (e : FrameInput) → most_in o (packets_heard o past) (sense o past e) ≡ most_packets o past e
most_is o past (Begin text) = refl
most_is o past (Trigger run act) = refl
most_is o past (Stop run) = refl
most_is o past (Verify run text) = refl
most_is o past (Deliver f) = meaning_most o (packets_heard o past) (meaning (rules o) (heard_at o past) f)
most_is o past Tick = refl

-- ---- what is sent

-- It is what the list says.
sends : {T : Type 0} (note : T → Note) (o : Opening) (past : List FrameEntry) (e : FrameInput) (frames : List (List ℕ)) → FramesAreShort
    → (s : Sense PacketInput) → sense o past e ≡ s → SenseInRange IsInRange s
    → hearers.Sends (hearing_kind note o) (packets_heard o past) s frames → Sends o past e frames
sends note o past e frames short (Hears c) is brings a =
    let list = packets_heard o past in
    record {
      frames_are = a ∙ sent (hearing_kind note o) (packets o) (map coming_of past) (arrival e) (Hears c) is;
      short = λ i h. subst (λ n. AreShort n frames) (sym (ap (most_in o list) is) ∙ most_is o past e)
          (subst (AreShort (bounds.most_packets o list c)) (sym a)
          (short o list c (saved_for (words.due o list c)) i (came_with c (saved_for (words.due o list c)) list brings h)));
    }
sends note o past e frames short Keeps is brings a = record {
  frames_are = a ∙ sent (hearing_kind note o) (packets o) (map coming_of past) (arrival e) Keeps is;
  short = λ i h. rw a (record { few = omega arith; short = omega arith });
}
sends note o past e frames short Drops is brings a = absurd a
sends note o past e frames short Misses is brings a = absurd a

-- ---- how a call ends

-- As what hears in the client ends.
pub hearer_ends : {T : Type 0} (note : T → Note) (o : Opening) (past : List FrameEntry) (e : FrameInput) (old new : Client T)
    (result : Result (List (List ℕ)) Fault) → FramesAreShort → HearsInRange IsInRange (sense o past e) result
    → Ends (hearers.steps (hearing_kind note o)) (map coming_of past) (arrival e) old.hearer new.hearer result → Ends (steps note o) past e old new result
hearer_ends note o past e old new (Ok frames) short brings h =
    answers (client_node note o) (λ e left. refl) past e old new frames (sends note o past e frames short (sense o past e) refl brings h.sends) h
hearer_ends note o past e old new (Err fault) short brings h =
    faults (client_node note o) (λ e left. refl) past e old new (sort_of fault) fault h

abbrev with_hearers_core : {T : Type 0} → Client T → PacketClient T → Client T
with_hearers_core client core = record { hearer = with_core client.hearer core }

-- What isn't a frame is heard as it comes.
pub whole_ends : {T : Type 0} (note : T → Note) (o : Opening) (past : List FrameEntry) (e : FrameInput) (c : PacketInput) (old : Client T) (core : PacketClient T)
    (result : Result (List (List ℕ)) Fault) → FramesAreShort → IsInRange c → arrival e ≡ Unframed c → StandsFor note old o past
    → Ends (whole.steps note o) (packets_heard o past) c old.hearer.core core result → Ends (steps note o) past e old (with_hearers_core old core) result
whole_ends note o past e c old core result short brings is w h =
    let k = hearing_kind note o in
    let list = map coming_of past in
    hearer_ends note o past e old (with_hearers_core old core) result short
    (subst (λ a. HearsInRange IsInRange (hearers.sense k list a) result) (sym is) (hears_in_range IsInRange (Hears c) result brings))
    (subst (λ a. Ends (hearers.steps k) list a old.hearer (with_core old.hearer core) result) (sym is)
    (unframed_ends k (hearing_laws note o) list c old.hearer core result w h))

pub whole_gives : {T : Type 0} (note : T → Note) (o : Opening) (past : List FrameEntry) (e : FrameInput) (c : PacketInput) (used : ℕ) (old : Client T)
    (core : PacketClient T) (result : Result (ℕ × List (List ℕ)) Fault) → FramesAreShort → IsInRange c → arrival e ≡ Unframed c
    → StandsFor note old o past → EndsWithNumber (whole.steps note o) (packets_heard o past) c used old.hearer.core core result
    → EndsWithNumber (steps note o) past e used old (with_hearers_core old core) result
whole_gives note o past e c used old core (Ok given) short brings is w h =
    (h.0, whole_ends note o past e c old core (Ok given.1) short brings is w h.1)
whole_gives note o past e c used old core (Err fault) short brings is w h =
    whole_ends note o past e c old core (Err fault) short brings is w h
