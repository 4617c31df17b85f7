-- How an event of a node at the hub ends: what it does to the network and to the node's history.
use Rattle.std.specs.Prelude.{◌≡◌, ℕ, ◌==◌, Bool, true, false, not, ◌||◌, ◌&&◌, List, ◌∷◌, ◌++◌, length, Option, Some, None, Result, Ok, Err, slice_get}
use Rattle.fc_base.specs.declared.fault.Fault.{Fault}
use Rattle.fc_base.specs.declared.fault.Fault.TheVariants.{NoMemory, NoFrame, FrameBadField}
use Rattle.fc_base.specs.declared.fault.FaultSort.{FaultSort}
use Rattle.fc_base.specs.declared.fault.FaultSort.TheVariants as sorts
use Rattle.fc_base.specs.Fault.{sort_of}
use Rattle.messages.specs.declared.node.Node.{Node}
use Rattle.messages.specs.declared.frame.Frame.{Frame}
use Rattle.messages.specs.FrameBytes.{frame_at}
use Rattle.messages.specs.Network.{Network, line_of}
use Rattle.cells.specs.declared.answer.Reply.{Reply}
use Rattle.cells.specs.declared.answer.Receipt.{Receipt}
use Rattle.cells.specs.declared.input.NodeInput.{NodeInput}
use Rattle.cells.specs.declared.input.NodeInput.TheVariants as came
use Rattle.cells.specs.declared.entry.HistoryEntry.{HistoryEntry}
use Rattle.cells.specs.Rules.{Ask, Rules}

-- The sort of a fault is that a save failed.
abbrev pub is_save : FaultSort → Bool
is_save sorts.Memory = false
is_save sorts.Save = true
is_save sorts.Refusal = false

-- The sort of a fault is that memory ran out.
abbrev pub is_memory : FaultSort → Bool
is_memory sorts.Memory = true
is_memory sorts.Save = false
is_memory sorts.Refusal = false

-- The answer is that memory ran out.
abbrev pub lacks_memory : Result Reply Fault → Bool
lacks_memory (Ok said) = false
lacks_memory (Err fault) = is_memory (sort_of fault)

-- A piece's bytes weren't their tag's packet, and the tag was dropped.
abbrev pub is_drop : Fault → Bool
is_drop FrameBadField = true
is_drop _ = false

-- What is refused leaves a history as it was, unless its save failed or a tag was dropped.
abbrev pub is_left_out : Result Reply Fault → Bool
is_left_out (Ok said) = false
is_left_out (Err fault) = not (is_save (sort_of fault) || is_drop fault)

-- What comes to a node is a frame.
abbrev pub is_frame : NodeInput → Bool
is_frame (came.Frame bytes) = true
is_frame _ = false

-- An event stands, and neither took nor sent a frame.
abbrev pub is_quiet : HistoryEntry → Bool
is_quiet l = not (is_left_out l.answer) && not (is_frame l.came) && (length l.sent == 0)

-- What is told of an answer, with so many frames behind so many.
abbrev pub told_at : ℕ → ℕ → Result Reply Fault → Result Receipt Fault
told_at first sent (Ok said) =
    Ok (record { answer = said.answer; first = first; sent = sent; act = said.act })
told_at first sent (Err fault) = Err fault

-- What is told of an answer that sends nothing.
abbrev pub told_by : Result Reply Fault → Result Receipt Fault
told_by answer = told_at 0 0 answer

-- The event is entered in the history; its frames stand behind those of the hub; and the journal
-- has its entry, if it took or sent a frame.
pub record IsHeard (node : Node) (came : NodeInput) (taken : Option ℕ) (answer : Result Reply Fault)
    (sent : List (List ℕ)) (old new : Network) (before after : List HistoryEntry) : Type 0 where
  pub entry : after ≡ record { by = None; came = came; answer = answer; sent = sent } ∷ before
  pub frames : new.frames ≡ old.frames ++ sent
  pub journal : new.journal ≡ line_of node (length before) taken (length sent) ++ old.journal

-- Neither the network nor the history changes.
pub record IsSame (old new : Network) (before after : List HistoryEntry) : Type 0 where
  pub net : new ≡ old
  pub history : after ≡ before

-- How an event with this answer and these frames ends.
abbrev pub Hears : Bool → Node → NodeInput → Option ℕ → Result Reply Fault → List (List ℕ) → Network
    → Network → List HistoryEntry → List HistoryEntry → Type 0
Hears true node came taken answer sent old new before after = IsSame old new before after
Hears false node came taken answer sent old new before after =
    IsHeard node came taken answer sent old new before after

-- How what comes to a node at the hub ends: an answer is told and entered, or left out where it is
-- a refusal that changes nothing.
abbrev pub Posts : Node → NodeInput → Option ℕ → Network → Network
    → List HistoryEntry → List HistoryEntry → Result Receipt Fault → Type 0
Posts node came taken old new before after result =
    (answer : Result Reply Fault) × (sent : List (List ℕ))
    × (result ≡ told_at (length old.frames) (length sent) answer)
    × Hears (is_left_out answer) node came taken answer sent old new before after

-- A fault of this sort is one that the rules give: memory ran out, or the rules refuse what was
-- asked. Of a failed save nothing more is said.
abbrev pub RefusedAs : {E X : Type 0} → Rules E X → List X → Ask E → FaultSort → Fault → Type 0
RefusedAs rules past ask sorts.Memory fault = fault ≡ NoMemory
RefusedAs rules past ask sorts.Save fault = Unit {0}
RefusedAs rules past ask sorts.Refusal fault = rules.refusal past ask ≡ Some fault

-- What was asked is refused by the rules: the fault is one that they give, where it is a refusal.
abbrev pub RefusedBy : {E X : Type 0} → Rules E X → List X → Ask E → Fault → Type 0
RefusedBy rules past ask fault = RefusedAs rules past ask (sort_of fault) fault

-- The frame at this position comes, by its bytes; or there is none; or memory ran out.
abbrev pub Comes : Network → ℕ → Result (NodeInput × Frame) Fault → Type 0
Comes net position (Ok it) =
    (bytes : List ℕ) × (slice_get net.frames position ≡ Some bytes) × (it.0 ≡ came.Frame bytes)
    × (frame_at bytes ≡ Some it.1)
Comes net position (Err NoFrame) = slice_get net.frames position ≡ None
Comes net position (Err NoMemory) = (bytes : List ℕ) × (slice_get net.frames position ≡ Some bytes)
Comes net position (Err _) = ⊥
