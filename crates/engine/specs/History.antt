-- The history of a job's writes, and the sets of writes that are read from it.
use Rattle.std.specs.Prelude.{ℕ, ◌*◌, Bool, not, List, [], ◌∷◌, ◌++◌, length, filter}
use Rattle.fc_base.specs.Counted.{has}
use Rattle.fc_base.specs.Marks.{floor_of, marks_of}
use Rattle.engine.specs.Numbers.{last_of}

-- A write is issued, completes or fails. A history is a list of these, the newest first.
pub data Event : Type 0 where
  issue : ℕ → Event
  done : ℕ → Event
  fail : ℕ → Event

-- The writes issued, oldest first.
abbrev pub issues : List Event → List ℕ
issues [] = []
issues (issue k ∷ h) = issues h ++ k ∷ []
issues (done k ∷ h) = issues h
issues (fail k ∷ h) = issues h

-- The writes completed, in the order in which they did, oldest first.
abbrev pub completions : List Event → List ℕ
completions [] = []
completions (issue k ∷ h) = completions h
completions (done k ∷ h) = completions h ++ k ∷ []
completions (fail k ∷ h) = completions h

-- The writes failed, oldest first.
abbrev pub failures : List Event → List ℕ
failures [] = []
failures (issue k ∷ h) = failures h
failures (done k ∷ h) = failures h
failures (fail k ∷ h) = failures h ++ k ∷ []

-- How many writes were issued, which is also the number of the next one.
abbrev pub issued : List Event → ℕ
issued h = length (issues h)

-- A write has completed.
abbrev pub is_done : List Event → ℕ → Bool
is_done h k = has (completions h) k

-- The writes in flight: issued and not completed, failed ones included.
abbrev pub in_flight : List Event → List ℕ
in_flight h = filter (λ k. not (is_done h k)) (issues h)

-- The open writes: in flight and not failed.
abbrev pub open_writes : List Event → List ℕ
open_writes h = filter (λ k. not (has (failures h) k)) (in_flight h)

-- The completions that a verify state keeps: the last of them, two windows long.
abbrev pub recent : ℕ → List Event → List ℕ
recent window h = last_of (2 * window) (completions h)

-- The marks that a verify state keeps: which of the last window of writes issued have completed.
abbrev pub done_marks : ℕ → List Event → List ℕ
done_marks window h = marks_of (is_done h) (floor_of window (issued h))
