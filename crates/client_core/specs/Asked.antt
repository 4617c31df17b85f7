-- The runs and attempts that were asked for in a life, in rising order.
use Rattle.std.specs.Prelude.{ℕ, ◌==◌, nat_lt, if◌then◌else◌, List, [], ◌∷◌}
use Rattle.client_core.specs.Life.{Deed, Begins, Triggers, Stops, Verifies}

-- Rising numbers with one more at its place, where it isn't one of them.
abbrev pub with_number : ℕ → List ℕ → List ℕ
with_number n [] = n ∷ []
with_number n (m ∷ ms) =
    if nat_lt n m then n ∷ m ∷ ms else (if n == m then m ∷ ms else m ∷ with_number n ms)

-- The numbers in rising order, each once.
abbrev pub rising : List ℕ → List ℕ
rising [] = []
rising (n ∷ ns) = with_number n (rising ns)

-- The runs that were begun, triggered or stopped, the last first.
abbrev pub runs_of : List Deed → List ℕ
runs_of [] = []
runs_of (Begins run text ∷ deeds) = run ∷ runs_of deeds
runs_of (Triggers run act ∷ deeds) = run ∷ runs_of deeds
runs_of (Stops run ∷ deeds) = run ∷ runs_of deeds
runs_of (_ ∷ deeds) = runs_of deeds

-- The attempts that were made, the last first.
abbrev pub attempts_of : List Deed → List ℕ
attempts_of [] = []
attempts_of (Verifies run attempt text ∷ deeds) = attempt ∷ attempts_of deeds
attempts_of (_ ∷ deeds) = attempts_of deeds
