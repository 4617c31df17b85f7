-- What is left of each node behind its last entry.
use Rattle.std.proofs.Common.{◌≡◌, refl, sym, ◌∙◌, ap, subst, ℕ, suc, ◌+◌, ◌≤◌, ◌<◌, arith, Bool, true}
use Rattle.std.proofs.Common.{false, add-one, below_more, List, [], ◌++◌, length, get_or, Option, Some, None}
use Rattle.std.specs.Prelude.{reverse, nat_lt, Result, Ok, Err, OnOk, IfErr}
use Rattle.std.specs.Option.{option_map_or}
use Rattle.std.proofs.lemmas.Bool.Decides.{nat_tests}
use Rattle.std.proofs.lemmas.List.{append_assoc, length-reverse, reverse-append}
use Rattle.std.proofs.lemmas.Option.{slice_get_past, slice_get_read}
use Rattle.messages.specs.declared.node.Node.{Node}
use Rattle.messages.specs.declared.node.Node.TheVariants.{Server, Client, Mirror}
use Rattle.messages.specs.Network.{Network}
use Rattle.cells.specs.ServerCells.{ServerLog}
use Rattle.cells.specs.declared.entry.HistoryEntry.{HistoryEntry}
use Rattle.assembly.specs.declared.place.Place.{Place}
use Rattle.assembly.specs.Marks.{marks_in, marks_of}
use Rattle.assembly.specs.Orders.{next_place, up_to_last, left_of, left_below, merged_order}
use Rattle.assembly.specs.Rising.{HistoriesRise, marks_before}
use Rattle.assembly.specs.declared.fault.AssembleFault.{AssembleFault}
use Rattle.assembly.specs.declared.fault.AssembleFault.TheVariants.{Unlike, NoMemory}
use Rattle.assembly.specs.Ran.{Ran, history_of}
use Rattle.assembly.specs.Unlike.{DifferAt}
use Rattle.assembly.specs.Agrees.{IsMarked}
use Rattle.assembly.specs.Order.{Followed, next_of, IsPassed, IsStopped, IsFollowed, Differs}

-- A node is passed to its end: its marks are those that the journal tells of.
pub marked_to_end : HistoriesRise → (r : Ran) (net : Network) (node : Node) (start : Followed) (old new : List Place) → IsFollowed r net net.journal start
    → IsPassed node (history_of r node) (next_of start.next node) (length (history_of r node)) old new → IsMarked r net node
marked_to_end rise r net node start old new followed passed =
    sym (rise node (history_of r node)).1.all
    ∙ (passed.unmarked ∙ (ap (λ (n : ℕ). marks_before n (history_of r node)) (followed.next node) ∙ followed.marked node))

-- What is left of it is added.
pub left_added : (r : Ran) (net : Network) (node : Node) (start : Followed) (sofar old new : List Place) → IsFollowed r net net.journal start
    → old ≡ reverse sofar
    → IsPassed node (history_of r node) (next_of start.next node) (length (history_of r node)) old new
    → new ≡ reverse (left_of (history_of r) net.journal node ++ sofar)
left_added r net node start sofar old new followed e passed =
    passed.places
    ∙ rw (followed.next node, e) (sym (reverse-append (left_of (history_of r) net.journal node) sofar))

-- That of one server more.
pub server_added : (r : Ran) (net : Network) (s : ℕ) (start : Followed) (old new : List Place) → IsFollowed r net net.journal start
    → old ≡ reverse (left_below (history_of r) net.journal s ++ up_to_last (history_of r) net.journal)
    → IsPassed (Server s) (history_of r (Server s)) (next_of start.next (Server s)) (length (history_of r (Server s))) old new
    → new ≡ reverse (left_below (history_of r) net.journal (suc s) ++ up_to_last (history_of r) net.journal)
server_added r net s start old new followed e passed =
    left_added r net (Server s) start (left_below (history_of r) net.journal s ++ up_to_last (history_of r) net.journal) old new followed e passed
    ∙ ap (λ (ps : List Place). reverse ps) (sym (append_assoc (left_of (history_of r) net.journal (Server s)) (left_below (history_of r) net.journal s)
    (up_to_last (history_of r) net.journal)))

-- A node without a cell has no history.
pub no_cell : (r : Ran) (s : ℕ) → length r.servers ≤ s → history_of r (Server s) ≡ []
no_cell r s far = ap (λ o. option_map_or (λ cell. cell.history) o []) (slice_get_past r.servers s far)

none_of : (h : List HistoryEntry) (n : ℕ) → h ≡ [] → marks_of h ≡ marks_before n h
none_of h n e = rw e refl

-- So the journal tells nothing of it.
pub none_marked : (r : Ran) (net : Network) (node : Node) (start : Followed) → IsFollowed r net net.journal start → history_of r node ≡ [] → IsMarked r net node
none_marked r net node start followed none =
    none_of (history_of r node) (next_place node net.journal) none ∙ followed.marked node

-- A mark that is left of a node isn't in the journal.
pub differs_behind : (r : Ran) (net : Network) (node : Node) (start : Followed) (to : ℕ) (fault : AssembleFault) → IsFollowed r net net.journal start
    → IsStopped node (history_of r node) (next_of start.next node) to fault → Differs r net fault
differs_behind r net node start to NoMemory followed stopped = tt
differs_behind r net node start to (Unlike n at) followed stopped =
    subst (λ (k : Node). DifferAt (marks_of (history_of r k)) (marks_in net.frames k net.journal) at) (sym stopped.0) (record {
      older = marks_before (next_of start.next node) (history_of r node);
      event = Some stopped.1.mark;
      entry = None;
      goes_on = stopped.1.goes_on;
      is_noted = sym (ap (λ (m : ℕ). marks_before m (history_of r node)) (followed.next node) ∙ followed.marked node);
      differ = λ e. cc;
      at_is = sym stopped.1.at_is;
    })

-- ---- as the loop has it

-- The history of a cell is that of its server.
pub cell_history : (r : Ran) (s : ℕ) (cell : ServerLog) (list : List HistoryEntry) → s < length r.servers → cell ≡ get_or r.servers s cell
    → list ≡ reverse cell.history → list ≡ reverse (history_of r (Server s))
cell_history r s cell list low is e =
    let found = slice_get_read r.servers (length r.servers) s cell refl low is in
    e ∙ sym (ap (λ (o : Option ServerLog). reverse (option_map_or (λ (c : ServerLog). c.history) o [])) found)

-- No node is to be followed from behind its end.
pub rest_rises : (r : Ran) (net : Network) (node : Node) (start : Followed) (next : List ℕ) (list : List HistoryEntry) → IsFollowed r net net.journal start
    → next ≡ start.next
    → list ≡ reverse (history_of r node) → next_of next node ≤ length list
rest_rises r net node start next list followed same e =
    let low : next_of start.next node ≤ length list =
    omega (arith, followed.next node, followed.within node, ap (λ (ls : List HistoryEntry). length ls) e, length-reverse (history_of r node)) in
    subst (λ (ns : List ℕ). next_of ns node ≤ length list) (sym same) low

-- The places from which nodes are to be followed are those behind their last entries.
rest_passed : (r : Ran) (node : Node) (start : Followed) (next : List ℕ) (list : List HistoryEntry) (old new : List Place) → next ≡ start.next
    → list ≡ reverse (history_of r node)
    → IsPassed node (history_of r node) (next_of next node) (length list) old new
    → IsPassed node (history_of r node) (next_of start.next node) (length (history_of r node)) old new
rest_passed r node start next list old new same e passed =
    subst (λ (ns : List ℕ). IsPassed node (history_of r node) (next_of ns node) (length (history_of r node)) old new) same
    (subst (λ (to : ℕ). IsPassed node (history_of r node) (next_of next node) to old new)
    (ap (λ (ls : List HistoryEntry). length ls) e ∙ length-reverse (history_of r node)) passed)

-- A mark that is left of a node isn't in the journal.
pub rest_differs : (r : Ran) (net : Network) (node : Node) (start : Followed) (next : List ℕ) (to : ℕ) (fault : AssembleFault)
    → IsFollowed r net net.journal start → next ≡ start.next
    → IsStopped node (history_of r node) (next_of next node) to fault → Differs r net fault
rest_differs r net node start next to fault followed same stopped =
    differs_behind r net node start to fault followed (subst (λ (ns : List ℕ). IsStopped node (history_of r node) (next_of ns node) to fault) same stopped)

-- The first servers are marked, and what is left of them was added.
abbrev pub AreAdded : Ran → Network → Followed → ℕ → Followed → Type 0
AreAdded r net start n now =
    ((s : ℕ) → s < n → IsMarked r net (Server s))
    × (now.places ≡ reverse (left_below (history_of r) net.journal n ++ up_to_last (history_of r) net.journal))
    × (now.next ≡ start.next)

pub added_none : (r : Ran) (net : Network) (start : Followed) → IsFollowed r net net.journal start → AreAdded r net start 0 start
added_none r net start followed = (λ s low. absurd (omega (arith, low)), followed.places, refl)

-- One server more.
pub added_more : HistoriesRise → (r : Ran) (net : Network) (start : Followed) (n : ℕ) (now then : Followed) (list : List HistoryEntry)
    → IsFollowed r net net.journal start → AreAdded r net start n now
    → list ≡ reverse (history_of r (Server n)) → IsPassed (Server n) (history_of r (Server n)) (next_of now.next (Server n))
    (length list) now.places then.places → then.next ≡ now.next
    → AreAdded r net start (n + 1) then
added_more rise r net start n now then list followed added e passed next =
    let all = rest_passed r (Server n) start now.next list now.places then.places added.2 e passed in (
      below_more (λ (s : ℕ). IsMarked r net (Server s)) n added.0 (marked_to_end rise r net (Server n) start now.places then.places followed all),
      subst (λ (m : ℕ). then.places ≡ reverse (left_below (history_of r) net.journal m ++ up_to_last (history_of r) net.journal)) (sym (add-one n))
          (server_added r net n start now.places then.places followed added.1 all),
      next ∙ added.2,
    )

-- Behind the servers the client, and then all nodes are marked.
all_marked : HistoriesRise → (r : Ran) (net : Network) (start : Followed) (n : ℕ) (now : Followed) (new : List Place) (list : List HistoryEntry)
    → IsFollowed r net net.journal start → AreAdded r net start n now
    → length r.servers ≤ n → list ≡ reverse (history_of r Client) → IsPassed Client (history_of r Client) (next_of now.next Client) (length list) now.places new
    → (node : Node) → IsMarked r net node
all_marked rise r net start n now new list followed added all e passed Client =
    marked_to_end rise r net Client start now.places new followed (rest_passed r Client start now.next list now.places new added.2 e passed)
all_marked rise r net start n now new list followed added all e passed Mirror = none_marked r net Mirror start followed refl
all_marked rise r net start n now new list followed added all e passed (Server s) = by (nat_lt s n) refl
  where
    by : (b : Bool) → nat_lt s n ≡ b → IsMarked r net (Server s)
    by true low = added.0 s (grind (arith, nat_tests))
    by false far = none_marked r net (Server s) start followed (no_cell r s (grind (arith, nat_tests)))

pub ok_marked : HistoriesRise → (r : Ran) (net : Network) (start : Followed) (n : ℕ) (now : Followed) (new : List Place) (list : List HistoryEntry)
    (result : Result (Unit {0}) AssembleFault) → IsFollowed r net net.journal start
    → AreAdded r net start n now → length r.servers ≤ n → list ≡ reverse (history_of r Client)
    → OnOk result (IsPassed Client (history_of r Client) (next_of now.next Client) (length list) now.places new)
    → OnOk result ((node : Node) → IsMarked r net node)
ok_marked rise r net start n now new list (Ok _) followed added all e passed = all_marked rise r net start n now new list followed added all e passed
ok_marked rise r net start n now new list (Err _) followed added all e passed = tt

-- And all is added, in the order that the journal gives.
pub ok_merged : (r : Ran) (net : Network) (start : Followed) (n : ℕ) (now : Followed) (new : List Place) (list : List HistoryEntry)
    (result : Result (Unit {0}) AssembleFault) → IsFollowed r net net.journal start
    → AreAdded r net start n now → n ≡ length r.servers → list ≡ reverse (history_of r Client)
    → OnOk result (IsPassed Client (history_of r Client) (next_of now.next Client) (length list) now.places new)
    → OnOk result (new ≡ reverse (merged_order (length r.servers) (history_of r) net.journal))
ok_merged r net start n now new list (Ok _) followed added all e passed =
    subst (λ (m : ℕ). new ≡ reverse (merged_order m (history_of r) net.journal)) all
    (left_added r net Client start (left_below (history_of r) net.journal n ++ up_to_last (history_of r) net.journal) now.places new followed added.1
    (rest_passed r Client start now.next list now.places new added.2 e passed))
ok_merged r net start n now new list (Err _) followed added all e passed = tt

-- Or a mark is left that the journal doesn't have.
pub err_differs : (r : Ran) (net : Network) (start : Followed) (next : List ℕ) (to : ℕ) (result : Result (Unit {0}) AssembleFault)
    → IsFollowed r net net.journal start → next ≡ start.next
    → IfErr result (IsStopped Client (history_of r Client) (next_of next Client) to) → IfErr result (Differs r net)
err_differs r net start next to (Ok _) followed same stopped = tt
err_differs r net start next to (Err fault) followed same stopped = rest_differs r net Client start next to fault followed same stopped
