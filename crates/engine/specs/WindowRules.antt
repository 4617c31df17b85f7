-- The rules of a window's history, and the room that they leave for the next write.
use Rattle.std.specs.Prelude.{◌≡◌, ℕ, ◌+◌, ◌<◌, ◌≤◌, false, IsTrue, List, [], ◌∷◌, length}
use Rattle.fc_base.specs.Counted.{has}
use Rattle.engine.specs.History.{Event, issue, done, fail, issued, is_done, in_flight, open_writes}
use Rattle.engine.specs.declared.room.Room.{Room}
use Rattle.engine.specs.declared.room.Room.TheVariants.{Open, Depth, Held}

-- Each write that lies a window or more below the next one has completed.
abbrev pub IsClear : ℕ → List Event → Type 0
IsClear window h = (j : ℕ) → j + window ≤ issued h → IsTrue (is_done h j)

-- Writes are issued as 0, 1, 2 and so on, each with fewer than depth in flight and the window
-- clear. Only an open write completes or fails.
abbrev pub IsLegal : ℕ → ℕ → List Event → Type 0
IsLegal depth window [] = Unit {0}
IsLegal depth window (issue k ∷ h) =
    IsLegal depth window h × (k ≡ issued h) × (length (in_flight h) < depth) × IsClear window h
IsLegal depth window (done k ∷ h) = IsLegal depth window h × IsTrue (has (open_writes h) k)
IsLegal depth window (fail k ∷ h) = IsLegal depth window h × IsTrue (has (open_writes h) k)

-- What the rules say of the next write: the depth is looked at first, then the window.
abbrev pub HasRoom : ℕ → ℕ → List Event → Room → Type 0
HasRoom depth window h Depth = depth ≤ length (in_flight h)
HasRoom depth window h Held =
    (length (in_flight h) < depth) × ((j : ℕ) × (j + window ≤ issued h) × (is_done h j ≡ false))
HasRoom depth window h Open = (length (in_flight h) < depth) × IsClear window h
