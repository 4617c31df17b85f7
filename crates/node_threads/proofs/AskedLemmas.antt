-- What a client was asked for, one entry after the other.
use Rattle.std.proofs.Common.{◌≡◌, sym, ◌∙◌, ap, ℕ, ◌+◌, true, false, List, [], ◌∷◌, ◌++◌, take, Some}
use Rattle.std.specs.Prelude.{map, not, cond, slice_get}
use Rattle.std.specs.List.{filter}
use Rattle.std.proofs.lemmas.List.{map-append, append-nil, take_more}
use Rattle.std.proofs.lemmas.List.Elements.{filter-append}
use Rattle.std.proofs.lemmas.Option.{slice_get_within, get_or_from_slice_get}
use Rattle.cells.specs.declared.input.NodeInput.{NodeInput}
use Rattle.cells.specs.declared.entry.HistoryEntry.{HistoryEntry}
use Rattle.node_threads.specs.Asked.{is_frame, asked_of_client}

taken_more : {X : Type 0} (xs : List X) (at : ℕ) (x : X) → slice_get xs at ≡ Some x → take (at + 1) xs ≡ take at xs ++ x ∷ []
taken_more xs at x is =
    take_more xs at x (slice_get_within xs at x is) ∙ ap (λ y. take at xs ++ y ∷ []) (get_or_from_slice_get xs at x x is)

asked_more : (history : List HistoryEntry) (at : ℕ) (l : HistoryEntry) → slice_get history at ≡ Some l
    → asked_of_client (take (at + 1) history) ≡ asked_of_client (take at history) ++ cond (not (is_frame l.came)) (l.came ∷ []) []
asked_more history at l is =
    ap asked_of_client (taken_more history at l is)
    ∙ ap (filter (λ came. not (is_frame came))) (map-append (λ (l : HistoryEntry). l.came) (take at history) (l ∷ []))
    ∙ filter-append (λ came. not (is_frame came)) (map (λ (l : HistoryEntry). l.came) (take at history)) (l.came ∷ [])

-- A frame was not asked for.
pub unasked : (history : List HistoryEntry) (at : ℕ) (l : HistoryEntry) → slice_get history at ≡ Some l → is_frame l.came ≡ true
    → asked_of_client (take (at + 1) history) ≡ asked_of_client (take at history)
unasked history at l is frame =
    asked_more history at l is ∙ ap (λ b. asked_of_client (take at history) ++ cond (not b) (l.came ∷ []) []) frame
    ∙ append-nil (asked_of_client (take at history))

-- What else came is the next request.
pub asked_next : (history : List HistoryEntry) (at : ℕ) (l : HistoryEntry) (wanted : List NodeInput) (done : ℕ) → slice_get history at ≡ Some l → is_frame l.came ≡ false
    → slice_get wanted done ≡ Some l.came
    → asked_of_client (take at history) ≡ take done wanted → asked_of_client (take (at + 1) history) ≡ take (done + 1) wanted
asked_next history at l wanted done is request next so_far =
    asked_more history at l is ∙ ap (λ b. asked_of_client (take at history) ++ cond (not b) (l.came ∷ []) []) request
    ∙ ap (λ cs. cs ++ l.came ∷ []) so_far ∙ sym (taken_more wanted done l.came next)
