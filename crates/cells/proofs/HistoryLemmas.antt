-- Rows keep the entries that they stand for where one more comes.
use Rattle.std.proofs.Common.{◌≡◌, refl, ◌∙◌, ap, List, [], ◌∷◌, ◌++◌, length}
use Rattle.std.specs.Prelude.{map, All, slice_index_or}
use Rattle.std.proofs.lemmas.List.{map-append, get_or_append_left, get_or_push}
use Rattle.std.proofs.lemmas.List.Elements.{All-head, All-tail}
use Rattle.cells.specs.declared.history.Row.{Row}
use Rattle.cells.specs.declared.history.Row.TheVariants.{Short, Other}
use Rattle.cells.specs.declared.entry.HistoryEntry.{HistoryEntry}
use Rattle.cells.specs.Histories.{no_entry, entry_at, IsPlaced}

stays : (others : List HistoryEntry) (entry : HistoryEntry) (row : Row) → IsPlaced (length others) row → entry_at (others ++ entry ∷ []) row ≡ entry_at others row
stays others entry (Short short) h = refl
stays others entry (Other place) h = get_or_append_left others (entry ∷ []) no_entry place h

-- What stands stays where the others have one more.
pub all_stay : (others : List HistoryEntry) (entry : HistoryEntry) (rows : List Row) → All (IsPlaced (length others)) rows
    → map (entry_at (others ++ entry ∷ [])) rows ≡ map (entry_at others) rows
all_stay others entry [] h = refl
all_stay others entry (row ∷ rows) h =
    ap (λ x. x ∷ map (entry_at (others ++ entry ∷ [])) rows) (stays others entry row (All-head (IsPlaced (length others)) row rows h))
    ∙ ap (λ xs. entry_at others row ∷ xs) (all_stay others entry rows (All-tail (IsPlaced (length others)) row rows h))

pub other_stands : (others : List HistoryEntry) (entry : HistoryEntry) (rows : List Row) → All (IsPlaced (length others)) rows
    → map (entry_at (others ++ entry ∷ [])) (rows ++ Other (length others) ∷ []) ≡ map (entry_at others) rows ++ entry ∷ []
other_stands others entry rows h =
    map-append (entry_at (others ++ entry ∷ [])) rows (Other (length others) ∷ [])
    ∙ ap (λ xs. xs ++ slice_index_or (others ++ entry ∷ []) (length others) no_entry ∷ []) (all_stay others entry rows h)
    ∙ ap (λ x. map (entry_at others) rows ++ x ∷ []) (get_or_push others entry no_entry (length others) refl)
