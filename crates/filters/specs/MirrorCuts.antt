-- What is left of the mirror where its filter is cut at any byte of its answers, and how the next life
-- stands on it.
use Rattle.std.specs.Prelude.{List, ◌∷◌, ◌++◌, ℕ}
use Rattle.mirror_core.specs.declared.note.MirrorNote.{MirrorNote}
use Rattle.mirror_core.specs.History.{Restart, Cut}
use Rattle.mirror_core.specs.Note.{Says}
use Rattle.mirror_core.specs.Words.{words_noted}
use Rattle.filters.specs.Lives.{RecordParts, Lives}
use Rattle.filters.specs.Cuts.{CutsBehind}
use Rattle.filters.specs.NodeCuts.{CutsAnswer}
use Rattle.filters.specs.MirrorLives.{MirrorAt, MirrorTakes, BeginsBehind}

-- A mirror is cut so, and the next life over the note that it leaves begins behind its list and the
-- cut.
pub record GoesOnFrom (opening : MirrorNote) (first : MirrorAt) (records : List RecordParts)
    (front : List ℕ) : Type 0 where
  pub left : MirrorAt
  pub cuts : CutsBehind (MirrorTakes opening)
      (CutsAnswer (λ (at : MirrorAt). at.note)) first records front
      left
  pub next : BeginsBehind left.note opening
      (record { list = Restart ∷ (Cut ∷ left.list); note = left.note })

-- Wherever the answers of a life are cut, the next one goes on from there.
abbrev pub LivesGoOn : Type 0
LivesGoOn =
    (opening : MirrorNote) (first now : MirrorAt) (records : List RecordParts)
    (front back : List ℕ) →
    Says first.note (words_noted opening first.list)
    → Lives (MirrorTakes opening) first records now (front ++ back) →
    GoesOnFrom opening first records front
