-- Lists of what happens with a cut put in.
use Rattle.std.specs.Prelude.{ℕ, Bool, List, ◌∷◌, ◌++◌, take, drop, Option, Some, None, slice_get}
use Rattle.std.specs.Option.{option_map, option_and_then}
use Rattle.messages.specs.declared.node.Node.{Node}
use Rattle.net_world.specs.Happenings.{Happening, Cut, Restart, CutIn}

-- A node loses its power and is started again before what stands at a place.
abbrev pub with_cut : ℕ → Node → List Happening → List Happening
with_cut at node all = take at all ++ Cut node ∷ Restart node ∷ drop at all

-- A cut within the save of this. There is none of a cut within a save, which has no save of its own.
abbrev pub stop_in : Bool → Happening → Option Happening
stop_in landed (CutIn before h) = None
stop_in landed h = Some (CutIn landed h)

-- This happens, and the node is started again, before what stands at a place.
abbrev pub stopped_before : ℕ → Node → List Happening → Happening → List Happening
stopped_before at node all stop = take at all ++ stop ∷ Restart node ∷ drop at all

-- What stands at a place is cut within its save, the node is started again, and then it happens.
-- There is no such list where a cut within a save stands there.
abbrev pub with_stop : ℕ → Bool → Node → List Happening → Option (List Happening)
with_stop at landed node all =
    option_map (stopped_before at node all)
    (option_and_then (stop_in landed) (slice_get all at))
