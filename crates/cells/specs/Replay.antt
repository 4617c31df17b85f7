-- What a history makes of a node: the list of its core, in which each answer is the one that the
-- rules give there. Histories and lists are newest first.
use Rattle.std.specs.Prelude.{◌≡◌, ◌⊎◌, ℕ, Bool, true, List, [], ◌∷◌, map, Some, None, Result, Ok, Err}
use Rattle.fc_base.specs.declared.fault.Fault.{Fault}
use Rattle.fc_base.specs.declared.fault.Fault.TheVariants.{LoadFault}
use Rattle.fc_base.specs.declared.fault.FaultSort.{FaultSort}
use Rattle.fc_base.specs.declared.fault.FaultSort.TheVariants as sorts
use Rattle.fc_base.specs.Fault.{sort_of}
use Rattle.messages.specs.FrameBytes.{frame_spelling}
use Rattle.cells.specs.declared.answer.Reply.{Reply}
use Rattle.cells.specs.declared.entry.HistoryEntry.{HistoryEntry}
use Rattle.cells.specs.Rules.{Ask, Rules}

-- What comes isn't refused: its answer and its frames are those of the rules, and its entry is
-- added.
pub record Accepts {E X : Type 0} (rules : Rules E X) (past : List X) (ask : Ask E) (said : Reply)
    (sent : List (List ℕ)) (after : List X) : Type 0 where
  pub free : rules.refusal past ask ≡ None
  pub said_is : said ≡ rules.said past ask
  pub entry : X
  pub entry_is : rules.added past ask ≡ Some entry
  pub sent_are : sent ≡ map frame_spelling (rules.frames past entry)
  pub after_is : after ≡ entry ∷ past

-- What comes isn't refused, but its save failed: nothing is sent, and the entry is added with the
-- new bytes, or with the old ones.
pub record Loses {E X : Type 0} (rules : Rules E X) (past : List X) (ask : Ask E)
    (sent : List (List ℕ)) (after : List X) : Type 0 where
  pub free : rules.refusal past ask ≡ None
  pub landed : Bool
  pub entry : X
  pub entry_is : rules.lost past ask landed ≡ Some entry
  pub sends_none : sent ≡ []
  pub after_is : after ≡ entry ∷ past

-- What comes is refused for the reason that the rules give, or since the node's note wasn't loaded,
-- and nothing is sent.
pub record Passes {E X : Type 0} (rules : Rules E X) (past : List X) (ask : Ask E) (fault : Fault)
    (sent : List (List ℕ)) (after : List X) : Type 0 where
  pub why : (rules.refusal past ask ≡ Some fault)
      ⊎ ((fault ≡ LoadFault) × (rules.loads past ask ≡ true))
  pub sends_none : sent ≡ []
  pub after_is : after ≡ rules.passed past ask fault

-- What a fault makes of a list, by its sort. Want of memory is no event.
abbrev pub Stops : {E X : Type 0} → Rules E X → List X → Ask E → FaultSort → Fault → List (List ℕ)
    → List X → Type 0
Stops rules past ask sorts.Memory fault sent after = ⊥
Stops rules past ask sorts.Save fault sent after = Loses rules past ask sent after
Stops rules past ask sorts.Refusal fault sent after = Passes rules past ask fault sent after

-- What an event with this answer makes of a list.
abbrev pub Ends : {E X : Type 0} → Rules E X → List X → Ask E → Result Reply Fault → List (List ℕ)
    → List X → Type 0
Ends rules past ask (Ok said) sent after = Accepts rules past ask said sent after
Ends rules past ask (Err fault) sent after = Stops rules past ask (sort_of fault) fault sent after

-- The history makes this list.
abbrev pub Makes : {E X : Type 0} → Rules E X → List HistoryEntry → List X → Type 0
Makes rules [] after = after ≡ rules.opened
Makes {E} {X} rules (l ∷ ls) after =
    (past : List X) × Makes rules ls past
    × Ends rules past (rules.asked l.came) l.answer l.sent after
