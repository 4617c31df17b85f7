-- What is left of a server where its filter is cut at any byte of its answers, and how the next
-- life stands on it.
use Rattle.std.specs.Prelude.{ℕ, List, ◌∷◌, ◌++◌}
use Rattle.disk_model.specs.declared.save_outcome.SaveOutcome.TheVariants.{Saved}
use Rattle.server_core.specs.History.{Opening}
use Rattle.server_core.specs.Note.{Says}
use Rattle.server_core.specs.Hearing.{Restart, Cut}
use Rattle.filters.specs.NodeCuts.{CutsAnswer}
use Rattle.filters.specs.ServerAt.{ServerAt, no_checks, noted}
use Rattle.filters.specs.ServerLives.{ServerTakes, BeginsBehind, next_boot}
use Rattle.filters.specs.Lives.{RecordParts, Lives}
use Rattle.filters.specs.Cuts.{CutsBehind}

-- A server is cut so: where its save is there, it is as behind the record and all turns, and what
-- was sent and ordered counts. The next life over the note that it leaves begins behind its list
-- and the cut.
pub record GoesOnFrom (opening : Opening) (first : ServerAt) (records : List RecordParts)
    (front : List ℕ) : Type 0 where
  pub left : ServerAt
  pub cuts : CutsBehind (ServerTakes opening)
      (CutsAnswer (λ (at : ServerAt). at.note)) first records front left
  pub next : BeginsBehind opening.me left.note (noted opening left.list) opening
      (record {
        list = Restart Saved ∷ (Cut ∷ left.list);
        note = next_boot (noted opening left.list);
        checks = no_checks;
      })

-- Wherever the answers of a life are cut, the next one goes on from there.
abbrev pub LivesGoOn : Type 0
LivesGoOn =
    (opening : Opening) (first now : ServerAt) (records : List RecordParts) (front back : List ℕ) →
    Says first.note (noted opening first.list) →
    Lives (ServerTakes opening) first records now (front ++ back)
    → GoesOnFrom opening first records front
