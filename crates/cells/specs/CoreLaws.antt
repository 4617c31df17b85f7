-- What the core of a node under its lock keeps to, whichever core it is.
use Rattle.std.specs.Prelude.{◌≡◌, ℕ, ◌≤◌, true, false, List, ◌∷◌, map, length, reverse, sum_by, All, IfErr, Some, Result}
use Rattle.fc_base.specs.declared.fault.Fault.{Fault}
use Rattle.messages.specs.declared.frame.Frame.{Frame}
use Rattle.messages.specs.FrameBytes.{frame_at, frame_spelling}
use Rattle.messages.specs.Network.{IsSpelled}
use Rattle.node.specs.Kinds.{Kind, left_by, note_of}
use Rattle.node.specs.Kinds as nodes
use Rattle.cells.specs.declared.input.NodeInput.TheVariants as came
use Rattle.cells.specs.declared.answer.Receipt.{Receipt}
use Rattle.cells.specs.declared.entry.HistoryEntry.{HistoryEntry}
use Rattle.cells.specs.declared.node_cell.Cell.{Cell}
use Rattle.cells.specs.CoreRules.{CoreRules, rules_of}
use Rattle.cells.specs.Failures.{Counts}
use Rattle.cells.specs.Moves.{Keeps, TaskEnds}
use Rattle.cells.specs.Powers.{IsCut, told_of}
use Rattle.cells.specs.Rules.{Meets, Restarts, Rules}

-- These are at most so many frames, of at most so many bytes together.
pub record IsWithin (frames bytes : ℕ) (sent : List (List ℕ)) : Type 0 where
  pub few : length sent ≤ frames
  pub short : sum_by (λ frame. length frame) sent ≤ bytes

-- A core that is started over the notes of a node that isn't on starts as its rules have it, and
-- counts a failure of their device.
pub record Starts {C N E X D O : Type 0} (n : Kind C N E X D O) (c : CoreRules E X)
    (Opens : N → Result C (N × Fault) → Type 0) : Type 0 where
  pub ends : (past : List X) (notes : N) (made : Result C (N × Fault))
      → n.core.words.is_up past ≡ false → n.Says past notes → Opens notes made
      → TaskEnds n c past Restarts (left_by made) (told_of (nodes.told_of made))
  pub counts : (notes : N) (made : Result C (N × Fault)) → Opens notes made
      → Counts true (n.note notes).failures (note_of n (left_by made)).failures
      (told_of (nodes.told_of made))

-- The rules of a core keep these laws: a cut is one as of any node, and so is a start; a frame is
-- delivered that bytes say; and what is sent is spelled.
pub record Laws {C N E X D O : Type 0} (n : Kind C N E X D O) (c : CoreRules E X)
    (Opens : N → Result C (N × Fault) → Type 0) (delivers : Frame → E) : Type 0 where
  pub cuts : (past : List X) → IsCut n c past
  pub starts : Starts n c Opens
  pub asked : (bytes : List ℕ) (f : Frame) → frame_at bytes ≡ Some f
      → c.asked (came.Frame bytes) ≡ Meets (delivers f)
  pub spelled : (past : List X) (x : X) → c.InRange (x ∷ past)
      → All IsSpelled (map frame_spelling (c.frames past x))

-- What comes to a cell at the hub leaves it as this one: it keeps its node, has counted a failure of
-- the device, and says why it doesn't answer, by its rules and its history.
pub record Leaves {C N E X D O : Type 0} (n : Kind C N E X D O) (c : CoreRules E X)
    (old new : Cell C N) (Why : Rules E X → List HistoryEntry → Fault → Type 0)
    (result : Result Receipt Fault) : Type 0 where
  pub kept : Keeps n c new
  pub counts : Counts false (note_of n old.power).failures (note_of n new.power).failures result
  pub why : IfErr result (Why (rules_of n.core.words c) (reverse old.history.items))
