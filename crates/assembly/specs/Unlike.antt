-- What is told of a node that doesn't agree with the journal. Lists of marks are newest first.
use Rattle.std.specs.Prelude.{◌≡◌, ◌≢◌, ◌⊎◌, ℕ, min, List, ◌∷◌, ◌++◌, Option, Some, None, All}
use Rattle.messages.specs.declared.node.Node.{Node}
use Rattle.messages.specs.Network.{Network}
use Rattle.cells.specs.Seated.{Seated}
use Rattle.assembly.specs.Marks.{Mark, marks_in, marks_of}
use Rattle.assembly.specs.declared.fault.AssembleFault.{AssembleFault}
use Rattle.assembly.specs.declared.fault.AssembleFault.TheVariants.{Unlike, NoMemory}
use Rattle.assembly.specs.Ran.{Ran, history_of}
use Rattle.assembly.specs.Agrees.{IsOpened, IsSeatOf, Agrees}

-- Behind these older marks, the marks go on with this one; or there are no more.
abbrev pub GoesOn : List Mark → List Mark → Option Mark → Type 0
GoesOn older marks None = marks ≡ older
GoesOn older marks (Some m) = (newer : List Mark) × (marks ≡ newer ++ m ∷ older)

-- The first of the places of two marks that may be there.
abbrev pub first_place : Option Mark → Option Mark → ℕ
first_place None None = 0
first_place (Some m) None = m.at
first_place None (Some m) = m.at
first_place (Some m) (Some k) = min m.at k.at

-- Up to a place two lists of marks are the same, and there they differ: behind the same older marks
-- they go on with different ones, of which the first is there, or one goes on and the other
-- doesn't.
pub record DifferAt (ran noted : List Mark) (at : ℕ) : Type 0 where
  pub older : List Mark
  pub event : Option Mark
  pub entry : Option Mark
  pub goes_on : GoesOn older ran event
  pub is_noted : GoesOn older noted entry
  pub differ : event ≢ entry
  pub at_is : at ≡ first_place event entry

-- What is wrong with a node at a place: it wasn't opened rightly, or a seat of it doesn't fit its
-- history, both at place 0; or its history and the journal differ there.
abbrev pub IsUnlike : Ran → Network → List Seated → Node → ℕ → Type 0
IsUnlike r net seats node at =
    ((at ≡ 0) × (IsOpened r node → ⊥))
    ⊎ (((at ≡ 0) × (All (IsSeatOf r node) seats → ⊥))
    ⊎ DifferAt (marks_of (history_of r node)) (marks_in net.frames node net.journal) at)

-- Why there is no list of events: this node doesn't agree, and that is wrong with it; or memory ran
-- out.
abbrev pub IsWhy : Ran → Network → List Seated → AssembleFault → Type 0
IsWhy r net seats (Unlike node at) = (Agrees r net seats node → ⊥) × IsUnlike r net seats node at
IsWhy r net seats NoMemory = Unit {0}
