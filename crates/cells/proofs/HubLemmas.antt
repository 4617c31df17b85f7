-- What comes to a node at the hub is entered, or left out, whichever node it is.
use Rattle.std.proofs.Common.{◌≡◌, refl, sym, ◌∙◌, ap, subst, arith, ℕ, Bool, true, false, List, [], ◌∷◌, ◌++◌, Option, Result, Ok, Err}
use Rattle.std.specs.Prelude.{map, length, All, IfErr, IfOk, reverse}
use Rattle.std.specs.List.{AllByRecursion, flat_map, sum_by}
use Rattle.std.proofs.lemmas.List.{map-append, reverse-append}
use Rattle.std.proofs.lemmas.List.Elements.{All-nil, All-append}
use Rattle.fc_base.specs.declared.fault.Fault.{Fault}
use Rattle.fc_base.specs.declared.fault.Fault.TheVariants.{NoMemory, NodeOff}
use Rattle.messages.specs.declared.node.Node.{Node}
use Rattle.messages.specs.declared.packet.PacketParts.{PacketParts}
use Rattle.messages.specs.Laws.{IsPacket}
use Rattle.messages.specs.FrameBytes.{frame_spelling}
use Rattle.messages.specs.FramesOf.{spelled_frames}
use Rattle.messages.specs.Pieces.{frames_of}
use Rattle.messages.specs.NetworkLaws.{FramesAreSpelled}
use Rattle.messages.specs.Network.{Network, Room, HasRoom, IsSpelled}
use Rattle.cells.specs.declared.answer.Reply.{Reply}
use Rattle.cells.specs.declared.answer.Receipt.{Receipt}
use Rattle.cells.specs.declared.input.NodeInput.{NodeInput}
use Rattle.cells.specs.declared.entry.HistoryEntry.{HistoryEntry}
use Rattle.cells.specs.declared.entry.Turn.{Turn}
use Rattle.cells.specs.AtHub.{is_left_out, told_at, Hears, Posts}
use Rattle.cells.specs.Calls.{RefusedAfter}
use Rattle.cells.specs.Failures.{Counts}
use Rattle.cells.specs.CoreRules.{CoreRules, rules_of}
use Rattle.cells.specs.CoreLaws.{IsWithin}
use Rattle.cells.specs.Moves.{Moves, StepEnds, IsKept, outcome_of}
use Rattle.cells.specs.Powers.{IsReady}
use Rattle.cells.specs.Rules.{Ask, Meets}
use Rattle.node.specs.declared.power.Power.{Power}
use Rattle.node.specs.Kinds.{Kind, Stands}
use Rattle.cells.proofs.CallLemmas.{left_out_posts, why_off, why_on}
use Rattle.cells.proofs.MoveLemmas.{off_where, unmoved, moved, refused_for}

-- The newest entry is the last of the items.
pub pushed : (items : List HistoryEntry) (l : HistoryEntry) → reverse (items ++ l ∷ []) ≡ l ∷ reverse items
pushed items l = reverse-append items (l ∷ [])

-- ---- what a node keeps

-- Where nothing is entered, what it keeps is what it was.
pub same_kept : {C N E X D O : Type 0} (n : Kind C N E X D O) (c : CoreRules E X) (history : List HistoryEntry) (old new : Power C N) (kept : IsKept n c history old) → Stands n kept.past new → IsKept n c history new
same_kept n c history old new kept s = record { past = kept.past; made = kept.made; stands = s; ranges = kept.ranges }

-- The entry of what came so.
abbrev pub entry_by : Option Turn → NodeInput → Result Reply Fault → List (List ℕ) → HistoryEntry
entry_by by came answer sent = record { by = by; came = came; answer = answer; sent = sent }

-- What was asked is entered.
pub entered : {C N E X D O : Type 0} (n : Kind C N E X D O) (c : CoreRules E X) (history : List HistoryEntry) (old new : Power C N) (kept : IsKept n c history old) (by : Option Turn) (came : NodeInput)
    (answer : Result Reply Fault) (sent : List (List ℕ)) → Moves n c kept.past ((rules_of n.core.words c).asked came) answer sent new
    → IsKept n c (entry_by by came answer sent ∷ history) new
entered n c history old new kept by came answer sent m = record { past = m.after; made = (kept.past, kept.made, m.ends); stands = m.stands; ranges = m.ranges kept.ranges }

-- What came at the hub is entered, or left out.
pub heard : {C N E X D O : Type 0} (n : Kind C N E X D O) (c : CoreRules E X) (before after : List HistoryEntry) (old new : Power C N) (kept : IsKept n c before old) (e : E)
    (step : Result (Reply × List (List ℕ)) Fault) (node : Node) (came : NodeInput) (taken : Option ℕ) (net net' : Network) → (rules_of n.core.words c).asked came ≡ Meets e
    → StepEnds n c kept.past e new step
    → Hears (is_left_out (outcome_of step).0) node came taken (outcome_of step).0 (outcome_of step).1 net net' before after → IsKept n c after new
heard n c before after old new kept e step node came taken net net' asks f h = by_test (is_left_out (outcome_of step).0) refl h
  where
    by_test : (b : Bool) → is_left_out (outcome_of step).0 ≡ b → Hears b node came taken (outcome_of step).0 (outcome_of step).1 net net' before after
        → IsKept n c after new
    by_test true t h = subst (λ history. IsKept n c history new) (sym h.history) (same_kept n c before old new kept (unmoved n c kept.past e new step t f))
    by_test false t h = subst (λ history. IsKept n c history new) (sym h.entry)
        (entered n c before old new kept _ came (outcome_of step).0 (outcome_of step).1
        (subst (λ ask. Moves n c kept.past ask (outcome_of step).0 (outcome_of step).1 new) (sym asks) (moved n c kept.past e new step t f)))

-- ---- why it isn't done

-- A node that isn't ready leaves out what comes,
pub unready : (up : Bool) (node : Node) (came : NodeInput) (taken : Option ℕ) (old new : Network) (before after : List HistoryEntry) (fault : Fault)
    → IsReady up (Err fault) → new ≡ old → after ≡ before → Posts node came taken old new before after (Err fault)
unready up node came taken old new before after NodeOff h net same = left_out_posts node came taken old new before after NodeOff refl net same
unready up node came taken old new before after NoMemory h net same = left_out_posts node came taken old new before after NoMemory refl net same
unready up node came taken old new before after _ h net same = absurd h

-- counts no failure of its device,
pub unready_counts : (up : Bool) (old new : ℕ) (fault : Fault) → IsReady up (Err fault) → new ≡ old → Counts {X = Receipt} false old new (Err fault)
unready_counts up old new NodeOff h same = same
unready_counts up old new NoMemory h same = same
unready_counts up old new _ h same = absurd h

-- and says why.
pub unready_why : {C N E X D O : Type 0} (n : Kind C N E X D O) (c : CoreRules E X) (history : List HistoryEntry) (state : Power C N) (kept : IsKept n c history state) (ask : Ask E)
    (fault : Fault) → IsReady (n.core.words.is_up kept.past) (Err fault) → RefusedAfter (rules_of n.core.words c) history ask fault
unready_why n c history state kept ask NodeOff h = why_off (rules_of n.core.words c) history kept.past ask kept.made (off_where n.core.words c kept.past false h)
unready_why n c history state kept ask NoMemory h = why_on (rules_of n.core.words c) history kept.past ask NoMemory kept.made (off_where n.core.words c kept.past true h) refl
unready_why n c history state kept ask _ h = absurd h

-- What a step is refused for is by the rules.
pub step_why : {C N E X D O : Type 0} (n : Kind C N E X D O) (c : CoreRules E X) (history : List HistoryEntry) (old new : Power C N) (kept : IsKept n c history old) (e : E)
    (step : Result (Reply × List (List ℕ)) Fault) (first sent : ℕ) (result : Result Receipt Fault) → n.core.words.is_up kept.past ≡ true
    → StepEnds n c kept.past e new step
    → result ≡ told_at first sent (outcome_of step).0 → IfErr result (RefusedAfter (rules_of n.core.words c) history (Meets e))
step_why n c history old new kept e step first sent result up f is =
    subst (λ (r : Result Receipt Fault). IfErr r (RefusedAfter (rules_of n.core.words c) history (Meets e))) (sym is) (by_step step f)
  where
    by_step : (step : Result (Reply × List (List ℕ)) Fault) → StepEnds n c kept.past e new step
        → IfErr (told_at first sent (outcome_of step).0) (RefusedAfter (rules_of n.core.words c) history (Meets e))
    by_step (Ok outs) f = tt
    by_step (Err fault) f = why_on (rules_of n.core.words c) history kept.past (Meets e) fault kept.made (off_where n.core.words c kept.past true up)
        (refused_for n c kept.past e fault new refl f)

-- ---- the device's failures

-- What is told of a step counts it.
pub hear_counts : (before old new first sent : ℕ) (step : Result (Reply × List (List ℕ)) Fault) (result : Result Receipt Fault) → old ≡ before
    → result ≡ told_at first sent (outcome_of step).0 → Counts false old new step → Counts false before new result
hear_counts before old new first sent step result same is h =
    subst (λ (n : ℕ). Counts false n new result) same (subst (Counts false old new) (sym is) (by_step step h))
  where
    by_step : (step : Result (Reply × List (List ℕ)) Fault) → Counts false old new step → Counts false old new (told_at first sent (outcome_of step).0)
    by_step (Ok outs) h = tt
    by_step (Err fault) h = h

-- ---- its frames are spelled

-- The frames of packets are those that are spelled.
spelled : (ps : List PacketParts) → flat_map spelled_frames ps ≡ map frame_spelling (flat_map frames_of ps)
spelled [] = refl
spelled (p ∷ ps) = ap (λ fs. spelled_frames p ++ fs) (spelled ps) ∙ sym (map-append frame_spelling (frames_of p) (flat_map frames_of ps))

all_spelled : FramesAreSpelled → (ps : List PacketParts) → AllByRecursion IsPacket ps → All IsSpelled (flat_map spelled_frames ps)
all_spelled law [] h = All-nil IsSpelled
all_spelled law (p ∷ ps) h = All-append IsSpelled (spelled_frames p) (flat_map spelled_frames ps) (law p h.0) (all_spelled law ps h.1)

pub packets_spelled : FramesAreSpelled → (ps : List PacketParts) → AllByRecursion IsPacket ps → All IsSpelled (map frame_spelling (flat_map frames_of ps))
packets_spelled law ps h = subst (All IsSpelled) (spelled ps) (all_spelled law ps h)

-- What a step sends is spelled, where the frames of entries are.
pub sent_spelled : {C N E X D O : Type 0} (n : Kind C N E X D O) (c : CoreRules E X) (past : List X) (e : E) (new : Power C N) (step : Result (Reply × List (List ℕ)) Fault)
    → ((x : X) → c.InRange (x ∷ past) → All IsSpelled (map frame_spelling (c.frames past x))) → c.InRange past → StepEnds n c past e new step
    → All IsSpelled (outcome_of step).1
sent_spelled n c past e new (Err fault) each came m = All-nil IsSpelled
sent_spelled n c past e new (Ok outs) each came m =
    subst (All IsSpelled) (sym m.ends.sent_are) (each m.ends.entry (subst c.InRange m.ends.after_is (m.ranges came)))

-- ---- the room for its frames

-- Where there is room for so many frames, there is for what a step sends that is within them.
pub has_room : (room : Room) (frames bytes : ℕ) (step : Result (Reply × List (List ℕ)) Fault) → HasRoom room frames bytes
    → IfOk step (λ outs. IsWithin frames bytes outs.1)
    → HasRoom room (length (outcome_of step).1) (sum_by (λ (frame : List ℕ). length frame) (outcome_of step).1)
has_room room frames bytes (Ok outs) has h = record {
  frames_fit = omega (arith, has.frames_fit, h.few);
  bytes_fit = omega (arith, has.bytes_fit, h.short);
  line_fits = has.line_fits;
}
has_room room frames bytes (Err fault) has h = record {
  frames_fit = omega (arith, has.frames_fit);
  bytes_fit = omega (arith, has.bytes_fit);
  line_fits = has.line_fits;
}
