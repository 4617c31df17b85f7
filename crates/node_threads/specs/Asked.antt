-- What the client of a fleet was asked for.
use Rattle.std.specs.Prelude.{◌≡◌, ℕ, Bool, true, false, not, List, [], ◌∷◌, filter, map, reverse}
use Rattle.messages.specs.declared.refusal.Act.TheVariants.{Cut as WithCut}
use Rattle.cells.specs.declared.input.NodeInput.{NodeInput}
use Rattle.cells.specs.declared.client_cell.request.ClientRequest.TheVariants.{Begin, Trigger, Verify}
use Rattle.cells.specs.declared.input.NodeInput.TheVariants.{Frame, Request}
use Rattle.cells.specs.declared.entry.HistoryEntry.{HistoryEntry}
use Rattle.cells.specs.ClientCells.{ClientLog}

-- A frame has come.
abbrev pub is_frame : NodeInput → Bool
is_frame (Frame bytes) = true
is_frame _ = false

-- All that has come to the client but frames, by its history.
abbrev pub asked_of_client : List HistoryEntry → List NodeInput
asked_of_client history = filter (λ came. not (is_frame came)) (map (λ logged. logged.came) history)

-- To begin a run by one text, to trigger it with a cut, and to verify it by another text.
abbrev pub errand : ℕ → List ℕ → List ℕ → List NodeInput
errand run write read =
    map (λ request. Request request) (Begin write ∷ Trigger run WithCut ∷ Verify run read ∷ [])

-- This is all that a client was asked for, whose history is kept with the newest first.
pub record IsAsked (client : ClientLog) (write read : List ℕ) : Type 0 where
  pub run : ℕ
  pub asked_is : asked_of_client (reverse client.history) ≡ errand run write read
