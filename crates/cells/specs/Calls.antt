-- What the calls of a node under its lock do, whichever node it is.
use Rattle.std.specs.Prelude.{◌≡◌, ◌⊎◌, ℕ, Bool, true, false, if◌then◌else◌, List, Option, Some, None, Result, Ok, Err}
use Rattle.fc_base.specs.declared.fault.Fault.{Fault}
use Rattle.fc_base.specs.declared.fault.Fault.TheVariants.{NodeOff, NoFrame}
use Rattle.messages.specs.declared.node.Node.{Node}
use Rattle.messages.specs.Network.{Network}
use Rattle.cells.specs.declared.answer.Receipt.{Receipt}
use Rattle.cells.specs.declared.input.NodeInput.{NodeInput}
use Rattle.cells.specs.declared.input.NodeInput.TheVariants.{Frame}
use Rattle.cells.specs.declared.entry.HistoryEntry.{HistoryEntry}
use Rattle.cells.specs.AtHub.{IsSame, RefusedBy, Posts}
use Rattle.cells.specs.Replay.{Makes}
use Rattle.cells.specs.Rules.{Ask, Cuts, Rules}

-- By the rules of its node, the history makes a list.
abbrev pub Replays : {E X : Type 0} → Rules E X → List HistoryEntry → Type 0
Replays {E} {X} rules history = (past : List X) × Makes rules history past

-- The fault says that the node is off.
abbrev pub says_off : Option Fault → Bool
says_off (Some NodeOff) = true
says_off _ = false

-- By its list a node is off, or down: it can't be cut.
abbrev pub is_off : {E X : Type 0} → Rules E X → List X → Bool
is_off rules past = says_off (rules.refusal past Cuts)

-- What is asked is refused where the node is off or on: one that is off says so; by one that is on,
-- since memory ran out, a save failed, or the rules refuse it.
abbrev pub RefusedWhere : {E X : Type 0} → Bool → Rules E X → List X → Ask E → Fault → Type 0
RefusedWhere true rules past ask fault = fault ≡ NodeOff
RefusedWhere false rules past ask fault = RefusedBy rules past ask fault

-- What is asked is refused with this fault after this history, by a list that it makes.
pub record RefusedAfter {E X : Type 0} (rules : Rules E X) (history : List HistoryEntry) (ask : Ask E)
    (fault : Fault) : Type 0 where
  pub past : List X
  pub made : Makes rules history past
  pub why : RefusedWhere (is_off rules past) rules past ask fault

-- Why there is nothing to be delivered: the node is off, or there is no such frame.
pub record HasNone {E X : Type 0} (rules : Rules E X) (history : List HistoryEntry)
    (fault : Fault) : Type 0 where
  pub past : List X
  pub made : Makes rules history past
  pub why : fault ≡ (if is_off rules past then NodeOff else NoFrame)

-- A delivery is refused with this fault, where these are the bytes at its position.
abbrev pub RefusedAt : {E X : Type 0} → Rules E X → List HistoryEntry → Option (List ℕ) → Fault
    → Type 0
RefusedAt rules history None fault = HasNone rules history fault
RefusedAt rules history (Some bytes) fault = RefusedAfter rules history (rules.asked (Frame bytes)) fault

-- How a delivery ends, where these are the bytes at its position: the frame comes; where there is
-- none, it is refused, and nothing changes.
abbrev pub Delivers : Node → ℕ → Option (List ℕ) → Network → Network
    → List HistoryEntry → List HistoryEntry → Result Receipt Fault → Type 0
Delivers node position None old new before after (Ok told) = ⊥
Delivers node position None old new before after (Err fault) = IsSame old new before after
Delivers node position (Some bytes) old new before after result =
    Posts node (Frame bytes) (Some position) old new before after result

-- What doesn't come to a node is refused, and neither the network nor the history changes.
pub record Misses (old new : Network) (before after : List HistoryEntry)
    (result : Result Receipt Fault) : Type 0 where
  pub fault : Fault
  pub refused : result ≡ Err fault
  pub same : IsSame old new before after

-- How a command ends, which asks this: it comes, is kept as what asks it, and takes no frame; or it
-- doesn't come.
abbrev pub Commands : {E X : Type 0} → Rules E X → Ask E → Node → Network → Network
    → List HistoryEntry → List HistoryEntry → Result Receipt Fault → Type 0
Commands rules ask node old new before after result =
    Misses old new before after result
    ⊎ ((kept : NodeInput) × (rules.asked kept ≡ ask)
    × Posts node kept None old new before after result)
