-- What holds of every legal history, and why a state that keeps few completions still counts all.
use Rattle.std.specs.Prelude.{◌≡◌, ℕ, ◌+◌, ◌<◌, ◌≤◌, List, length, filter, IsTrue}
use Rattle.fc_base.specs.declared.limits.TheConstants.{MAX_WINDOW}
use Rattle.fc_base.specs.Counted.{has, numbers_below, is_counted, is_possible}
use Rattle.fc_base.specs.Marks.{counted_by, is_possible_by}
use Rattle.engine.specs.History.{Event, issues, issued, is_done, in_flight, recent, done_marks}
use Rattle.engine.specs.WindowRules.{IsLegal}

-- For each legal history, the last two windows of completions and the number issued count exactly
-- the completed writes.
abbrev pub CountsTheCompleted : Type 0
CountsTheCompleted =
    (depth window : ℕ) (h : List Event) →
    IsLegal depth window h → (k : ℕ)
    → is_counted window (issued h) (recent window h) k ≡ is_done h k

-- Each legal history comes to a list of completions and a number issued that are possible.
abbrev pub ComesToPossible : Type 0
ComesToPossible =
    (depth window : ℕ) (h : List Event) →
    IsLegal depth window h → IsTrue (is_possible depth window (issued h) (recent window h))

-- For each legal history, the marks and the number issued count exactly the completed writes. They
-- have room for the widest window.
abbrev pub MarksCountTheCompleted : Type 0
MarksCountTheCompleted =
    (depth window : ℕ) (h : List Event) →
    window ≤ MAX_WINDOW → IsLegal depth window h
    → counted_by window (issued h) (done_marks window h)
    ≡ filter (is_done h) (numbers_below (issued h))

-- Each legal history comes to marks and a number issued that are possible.
abbrev pub ComesToPossibleMarks : Type 0
ComesToPossibleMarks =
    (depth window : ℕ) (h : List Event) →
    window ≤ MAX_WINDOW → IsLegal depth window h
    → IsTrue (is_possible_by depth window (issued h) (done_marks window h))

-- The writes issued are the numbers below their number. Of these at most depth are in flight, and
-- they lie within one window below the next number.
pub record IsInOneWindow (depth window : ℕ) (h : List Event) : Type 0 where
  pub numbered : issues h ≡ numbers_below (issued h)
  pub few : length (in_flight h) ≤ depth
  pub near : (k : ℕ) → IsTrue (has (in_flight h) k) → (k < issued h) × (issued h ≤ k + window)

-- In each legal history the writes issued are the numbers below their number, and those in flight
-- are at most depth, within one window below the next number.
abbrev pub StaysInOneWindow : Type 0
StaysInOneWindow =
    (depth window : ℕ) (h : List Event) → IsLegal depth window h → IsInOneWindow depth window h
