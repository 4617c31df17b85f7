-- What a script prints, and its status.
use Rattle.std.specs.Prelude.{ℕ, Bool, true, false, ◌||◌, nat_lt, List, [], ◌∷◌, ◌++◌, length, codes, if◌then◌else◌}
use Rattle.std.specs.List.{flat_map}
use Rattle.net_world.specs.Setup.{Setup}
use Rattle.net_world.specs.declared.told.WorldAnswer.{WorldAnswer}
use Rattle.net_world.specs.Happenings.{Happening}
use Rattle.net_world.specs.Outcomes.{Outcome, Does, Refuses, Drops, outcome}
use Rattle.net_world.specs.World.{world, answer}
use Rattle.net_script.specs.Commands.{happens}
use Rattle.program_io.specs.Words.{with_line_feed}
use Rattle.net_script.specs.Orders.{Order, Opens, Asks, Fails, orders_of}
use Rattle.net_script.specs.Printed.{lines_at, bad_line, has_faults}

-- The lines of orders behind these happenings, the newest first: each command answered in the world
-- that those before it have made; a bad line ends them. `servers` stands first, and only there.
abbrev pub lines_in : Setup → List Happening → List Order → List (List ℕ)
lines_in setup before [] = []
lines_in setup before (Asks line command text ∷ orders) =
    lines_at setup (world setup before) (happens command text)
    ++ lines_in setup (happens command text ∷ before) orders
lines_in setup before (Fails line at ∷ orders) = bad_line at ∷ []
lines_in setup before (Opens line more ∷ orders) = bad_line line ∷ []

-- The lines of all orders: the first makes the world.
abbrev pub lines_of_orders : List Order → List (List ℕ)
lines_of_orders [] = []
lines_of_orders (Opens line setup ∷ orders) = codes "ok" ∷ lines_in setup [] orders
lines_of_orders (Asks line command text ∷ orders) = bad_line line ∷ []
lines_of_orders (Fails line at ∷ orders) = bad_line line ∷ []

-- All of these orders are commands.
abbrev pub are_commands : List Order → Bool
are_commands [] = true
are_commands (Asks line command text ∷ orders) = are_commands orders
are_commands (order ∷ orders) = false

-- No line of a script is bad, by its orders.
abbrev pub reads_well : List Order → Bool
reads_well [] = true
reads_well (Opens line setup ∷ orders) = are_commands orders
reads_well (order ∷ orders) = false

-- What comes of it isn't refused, and tells of faults.
abbrev pub tells_faults : WorldAnswer → Outcome → Bool
tells_faults answer (Does change) = has_faults answer
tells_faults answer (Refuses fault) = false
tells_faults answer (Drops step) = false

-- What happens in a world of this setup behind these happenings tells of faults.
abbrev pub finds_fault : Setup → List Happening → Happening → Bool
finds_fault setup before e =
    tells_faults (answer setup (world setup before) e) (outcome setup (world setup before) e)

-- Some command tells of faults.
abbrev pub some_faults : Setup → List Happening → List Order → Bool
some_faults setup before (Asks line command text ∷ orders) =
    finds_fault setup before (happens command text)
    || some_faults setup (happens command text ∷ before) orders
some_faults setup before _ = false

-- Some report of the script has faults.
abbrev pub finds_faults : List Order → Bool
finds_faults (Opens line setup ∷ orders) = some_faults setup [] orders
finds_faults _ = false

-- The status: 2 where a line is bad, 1 where a report has faults, else 0.
abbrev pub status_by : Bool → Bool → ℕ
status_by well faulty = if well then (if faulty then 1 else 0) else 2

-- The status of orders in a world of this setup behind these happenings.
abbrev pub status_in : Setup → List Happening → List Order → ℕ
status_in setup before orders = status_by (are_commands orders) (some_faults setup before orders)

-- The status of orders.
abbrev pub status_of_orders : List Order → ℕ
status_of_orders orders = status_by (reads_well orders) (finds_faults orders)

-- A script has at most 1,048,576 bytes.
abbrev pub is_too_long : List ℕ → Bool
is_too_long script = nat_lt 1048576 (length script)

-- What a script prints.
abbrev pub text_of : List ℕ → List ℕ
text_of script =
    if is_too_long script then codes "too long\n"
    else flat_map with_line_feed (lines_of_orders (orders_of script))

-- The status with which a script ends: 2 where it is too long, and else that of its orders.
abbrev pub status_of : List ℕ → ℕ
status_of script = if is_too_long script then 2 else status_of_orders (orders_of script)
