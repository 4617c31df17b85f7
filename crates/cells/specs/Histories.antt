-- The entries of a history, and how they are kept.
use Rattle.std.specs.Prelude.{ℕ, ◌<◌, List, [], None, Ok, slice_index_or}
use Rattle.messages.specs.declared.refusal.Act.TheVariants as acts
use Rattle.cells.specs.declared.answer.Answer.TheVariants.{Plain}
use Rattle.cells.specs.declared.input.NodeInput.TheVariants as came
use Rattle.cells.specs.declared.history.LentEntry.{LentEntry}
use Rattle.cells.specs.declared.history.LentEntry.TheVariants.{Made, Kept}
use Rattle.cells.specs.declared.history.Row.{Row}
use Rattle.cells.specs.declared.history.Row.TheVariants.{Short, Other}
use Rattle.cells.specs.declared.entry.HistoryEntry.{HistoryEntry}
use Rattle.cells.specs.Shorts.{entry_of}

-- Entries, the oldest first, and for how many more there is room.
pub record Entries : Type 0 where
  pub items : List HistoryEntry
  pub room : ℕ

-- What stands in no history: a cut that nobody was told of.
abbrev pub no_entry : HistoryEntry
no_entry = record {
  by = None;
  came = came.Cut;
  answer = Ok (record { answer = Plain; act = acts.None });
  sent = [];
}

-- The entry of a row: that of a worker's turn, or the one at this place among the others.
abbrev pub entry_at : List HistoryEntry → Row → HistoryEntry
entry_at others (Short short) = entry_of short
entry_at others (Other place) = slice_index_or others place no_entry

-- A row's place is one of so many.
abbrev pub IsPlaced : ℕ → Row → Type 0
IsPlaced count (Short short) = Unit {0}
IsPlaced count (Other place) = place < count

-- The entry that is lent.
abbrev pub lent_entry : LentEntry → HistoryEntry
lent_entry (Made entry) = entry
lent_entry (Kept entry) = entry.now
