-- The seats in a history. Histories are newest first.
use Rattle.std.specs.Prelude.{◌≡◌, ℕ, ◌==◌, ◌+◌, if◌then◌else◌, List, [], ◌∷◌, Option, None, Some}
use Rattle.cells.specs.declared.entry.Turn.{Turn}
use Rattle.cells.specs.declared.entry.HistoryEntry.{HistoryEntry}

-- How many events of this seat there are, with this turn.
abbrev pub with_turn : ℕ → Option Turn → ℕ → ℕ
with_turn seat None n = n
with_turn seat (Some t) n = if t.seat == seat then n + 1 else n

-- How many events of this seat there are in a history.
abbrev pub times : ℕ → List HistoryEntry → ℕ
times seat [] = 0
times seat (l ∷ ls) = with_turn seat l.by (times seat ls)

-- A turn has its seat's next number.
abbrev pub IsNext : Option Turn → List HistoryEntry → Type 0
IsNext None ls = Unit {0}
IsNext (Some t) ls = t.number ≡ times t.seat ls

-- The events of each seat are numbered 0, 1, 2, .. in their order.
abbrev pub IsNumbered : List HistoryEntry → Type 0
IsNumbered [] = Unit {0}
IsNumbered (l ∷ ls) = IsNumbered ls × IsNext l.by ls
