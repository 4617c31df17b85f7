-- How a run of a script ends.
use Rattle.std.specs.Prelude.{◌≡◌, ◌⊎◌, ℕ, Bool, false, IsTrue, List, [], ◌∷◌, ◌++◌, ⊤, Option, Result, Ok, Err}
use Rattle.std.specs.List.{flat_map}
use Rattle.std.specs.Io.KnownBytes.{Keeps}
use Rattle.fc_base.specs.declared.fault.Fault.TheVariants.{NoMemory}
use Rattle.program_io.specs.declared.input.InputFault.{InputFault as Unread}
use Rattle.program_io.specs.declared.input.InputFault.TheVariants as unread
use Rattle.net_script.specs.declared.script_fault.ScriptFault.{ScriptFault}
use Rattle.net_script.specs.declared.script_fault.ScriptFault.TheVariants as faults
use Rattle.program_io.specs.Words.{with_line_feed, Finishes}
use Rattle.net_script.specs.Orders.{Order, orders_of}
use Rattle.net_script.specs.Printed.{refusal_line}
use Rattle.net_script.specs.Script.{lines_of_orders, reads_well, text_of, status_of, is_too_long}

-- Memory ran out at an order, up to which none is bad: behind the lines of those before it one says
-- so, and it is the last.
pub record EndedSoon (lines : List Order → List (List ℕ)) (reads : List Order → Bool)
    (orders : List Order) (old new : Option (List ℕ)) (status : ℕ) : Type 0 where
  pub before : List Order
  pub lacking : Order
  pub rest : List Order
  pub split : orders ≡ before ++ (lacking ∷ rest)
  pub lacks : IsTrue (reads (before ++ lacking ∷ []))
  pub finishes : Finishes (flat_map with_line_feed (lines before)
      ++ with_line_feed (refusal_line NoMemory)) 2 old new status

-- Orders have run: all of their lines are written, and the status is theirs; or memory ran out.
abbrev pub RunOrders : (List Order → List (List ℕ)) → (List Order → Bool) → (List Order → ℕ)
    → List Order → Option (List ℕ) → Option (List ℕ) → ℕ → Type 0
RunOrders lines reads wanted orders old new status =
    Finishes (flat_map with_line_feed (lines orders)) (wanted orders) old new status
    ⊎ EndedSoon lines reads orders old new status

-- A script has run: what it prints is written, and its status is answered; or memory ran out.
abbrev pub HasRun : List ℕ → Option (List ℕ) → Option (List ℕ) → ℕ → Type 0
HasRun script old new status =
    Finishes (text_of script) (status_of script) old new status
    ⊎ ((is_too_long script ≡ false)
    × EndedSoon lines_of_orders reads_well (orders_of script) old new status)

-- A run of a script by a reader and a writer: nothing is written before all is read.
abbrev pub Runs : List ℕ → Option (List ℕ) → Option (List ℕ) → Result ℕ ScriptFault → Type 0
Runs script old new (Ok status) = HasRun script old new status
Runs script old new (Err faults.ReadError) = Keeps old new
Runs script old new (Err faults.NoMemory) = Keeps old new
Runs script old new (Err faults.WriteError) = ⊤

-- A script that was not read has no status.
abbrev pub of_input : Unread → ScriptFault
of_input unread.ReadError = faults.ReadError
of_input unread.NoMemory = faults.NoMemory
