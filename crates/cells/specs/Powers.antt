-- When a node under its lock is ready, and what is told of its cuts and starts.
use Rattle.std.specs.Prelude.{◌≡◌, Bool, true, false, List, [], ◌∷◌, Result, Ok, Err}
use Rattle.fc_base.specs.declared.fault.Fault.{Fault}
use Rattle.fc_base.specs.declared.fault.Fault.TheVariants.{NodeOff, NoMemory}
use Rattle.cells.specs.declared.answer.Reply.{Reply}
use Rattle.node.specs.Kinds.{Kind}
use Rattle.cells.specs.CoreRules.{CoreRules}
use Rattle.cells.specs.Rules.{plain_reply}

-- A node is ready where it is on, and there is room for what comes; else it is off, or memory ran
-- out.
abbrev pub IsReady : Bool → Result (Unit {0}) Fault → Type 0
IsReady up (Ok done) = up ≡ true
IsReady up (Err NodeOff) = up ≡ false
IsReady up (Err NoMemory) = up ≡ true
IsReady up (Err _) = ⊥

-- What is told of a cut, or of a start.
abbrev pub told_of : Result (Unit {0}) Fault → Result Reply Fault
told_of (Ok done) = Ok plain_reply
told_of (Err fault) = Err fault

-- The entry of a cut sends nothing. The node is off then, all stays within its ranges, and what
-- notes say is the same.
pub record IsCut {C N E X D O : Type 0} (n : Kind C N E X D O) (c : CoreRules E X) (past : List X) : Type 0 where
  pub sends_none : c.frames past c.cut ≡ []
  pub off : n.core.words.is_up (c.cut ∷ past) ≡ false
  pub ranges : c.InRange past → c.InRange (c.cut ∷ past)
  pub says : (notes : N) → n.Says past notes → n.Says (c.cut ∷ past) notes
