-- From where nodes are to be followed.
use Rattle.std.proofs.Common.{◌≡◌, refl, sym, ap, ℕ, ◌≤◌, ◌<◌, arith, Bool, true, false, List, [], length}
use Rattle.std.specs.Prelude.{if◌then◌else◌, nat_lt, slice_set, replicate}
use Rattle.std.specs.Option.{option_map_or}
use Rattle.std.proofs.lemmas.Bool.Decides.{nat_tests}
use Rattle.std.proofs.lemmas.List.{length-set, get_or-set_same, get_or-set_other, get_or-replicate}
use Rattle.std.proofs.lemmas.Option.{slice_get_past}
use Rattle.messages.specs.declared.limits.TheConstants.{MAX_NODES}
use Rattle.messages.specs.declared.node.Node.{Node}
use Rattle.messages.specs.declared.node.Node.TheVariants.{Server, Client, Mirror}
use Rattle.messages.specs.Nodes.{node_number, is_node}
use Rattle.messages.specs.Waiting.{is_same_node}
use Rattle.messages.proofs.NodeLemmas.{number_below, other_number}
use Rattle.cells.specs.declared.entry.HistoryEntry.{HistoryEntry}
use Rattle.assembly.specs.Ran.{Ran, history_of}
use Rattle.assembly.specs.Order.{next_of, with_next}

-- ---- nodes

-- A node that has a history is one of the ten.
pub has_place : (r : Ran) (node : Node) (at : ℕ) → length r.servers ≤ 8 → at < length (history_of r node) → is_node node ≡ true
has_place r Client at few h = refl
has_place r Mirror at few h = refl
has_place r (Server s) at few h = by (nat_lt s 8) refl
  where
    by : (b : Bool) → nat_lt s 8 ≡ b → b ≡ true
    by true e = refl
    by false e =
        let far : length r.servers ≤ s = grind (arith, nat_tests, few, e) in
        let none : history_of r (Server s) ≡ [] = ap (λ o. option_map_or (λ cell. cell.history) o []) (slice_get_past r.servers s far) in
        absurd (omega (arith, h, ap (λ (xs : List HistoryEntry). length xs) none))

-- ---- lists of places by node

pub long_with : (next : List ℕ) (node : Node) (at : ℕ) → length (with_next next node at) ≡ length next
long_with next node at = elim (is_node node) as (λ b. length (if b then slice_set next (node_number node) at else next) ≡ length next) [
  | true ↦ length-set next (node_number node) at
  | false ↦ refl
]

-- The place that was put there.
pub next_same : (next : List ℕ) (node : Node) (at : ℕ) → length next ≡ MAX_NODES → is_node node ≡ true → next_of (with_next next node at) node ≡ at
next_same next node at long e =
    let below : node_number node < length next = omega (arith, long, number_below node e) in
    rw e (get_or-set_same next (node_number node) at 0 below)

by_range : (next : List ℕ) (node other : Node) (at : ℕ) (a b : Bool) → is_node node ≡ a → is_node other ≡ b → is_same_node node other ≡ false
    → next_of (with_next next node at) other ≡ next_of next other
by_range next node other at a false ea eb differ = rw eb refl
by_range next node other at false true ea eb differ = rw (ea, eb) refl
by_range next node other at true true ea eb differ =
    rw (ea, eb) (get_or-set_other next (node_number node) (node_number other) at 0 (λ same. other_number node other ea eb differ (sym same)))

-- That of another node.
pub next_other : (next : List ℕ) (node other : Node) (at : ℕ) → is_same_node node other ≡ false → next_of (with_next next node at) other ≡ next_of next other
next_other next node other at differ = by_range next node other at (is_node node) (is_node other) refl refl differ

none_by : (node : Node) (b : Bool) → is_node node ≡ b → next_of (replicate MAX_NODES 0) node ≡ 0
none_by node true e = rw e (get_or-replicate MAX_NODES (node_number node) 0 0 (number_below node e))
none_by node false e = rw e refl

pub next_none : (node : Node) → next_of (replicate MAX_NODES 0) node ≡ 0
next_none node = none_by node (is_node node) refl
