-- How nodes were opened, and their seats.
use Rattle.std.proofs.Common.{◌≡◌, refl, sym, ◌∙◌, ap, subst, ℕ, ◌+◌, ◌≤◌, ◌<◌, arith, Bool, true, false, ◌==◌, List, [], length, get_or, Option, Some, None}
use Rattle.std.specs.Prelude.{slice_get, All, Decides}
use Rattle.std.specs.Option.{ForSome, option_map_or}
use Rattle.std.proofs.lemmas.Bool.Decides.{nat_tests}
use Rattle.std.proofs.lemmas.Option.{slice_get_within, slice_get-get_or, get_or_from_slice_get}
use Rattle.messages.specs.declared.node.Node.{Node}
use Rattle.messages.specs.declared.node.Node.TheVariants.{Server, Client, Mirror}
use Rattle.cells.specs.declared.entry.HistoryEntry.{HistoryEntry}
use Rattle.cells.specs.Seated.{Seated}
use Rattle.cells.specs.Seats.{times}
use Rattle.server_core.specs.History.{Opening}
use Rattle.cells.specs.ServerCells.{ServerLog}
use Rattle.cells.specs.ServerCalls.{is_right}
use Rattle.client_core.specs.Note.{is_blank as says_nothing}
use Rattle.cells.specs.ClientCells.{ClientLog}
use Rattle.net_world.specs.Trace.{opening_of}
use Rattle.assembly.specs.Ran.{Ran, ran_of, history_of}
use Rattle.assembly.specs.Agrees.{IsOpened, IsSeatOf}

-- ---- openings

-- The first servers are opened rightly.
abbrev pub AreOpened : List ServerLog → ℕ → Type 0
AreOpened servers n = (s : ℕ) → s < n → ForSome (slice_get servers s) (λ cell. cell.opening ≡ opening_of s)

pub opened_none : (servers : List ServerLog) → AreOpened servers 0
opened_none servers = λ s low. absurd (omega (arith, low))

pub opened_more : (servers : List ServerLog) (n : ℕ) (cell : ServerLog) → AreOpened servers n → slice_get servers n ≡ Some cell → cell.opening ≡ opening_of n
    → AreOpened servers (n + 1)
opened_more servers n cell opened is e s low = by (s == n) refl
  where
    by : (b : Bool) → (s == n) ≡ b → ForSome (slice_get servers s) (λ cell. cell.opening ≡ opening_of s)
    by true same =
        let eq : n ≡ s = grind (arith, nat_tests) in
        subst (λ (k : ℕ). ForSome (slice_get servers k) (λ cell. cell.opening ≡ opening_of k)) eq
        (λ other is_other. let one : cell ≡ other = cc in rw (← one) e)
    by false apart = opened s (grind (arith, nat_tests))

-- All are, and the client.
pub all_opened : (client : ClientLog) (servers : List ServerLog) (n : ℕ) → says_nothing client.opening.noted ≡ true → client.opening.servers ≡ length servers
    → length servers ≤ 8 → length servers ≤ n → AreOpened servers n
    → (node : Node) → IsOpened (ran_of client servers) node
all_opened client servers n blank drives few all opened Client = (blank, drives, few)
all_opened client servers n blank drives few all opened Mirror = tt
all_opened client servers n blank drives few all opened (Server s) = λ cell is. opened s (omega (arith, all, slice_get_within servers s cell is)) cell is

-- One isn't.
pub not_opened : (client : ClientLog) (servers : List ServerLog) (n : ℕ) (cell : ServerLog) → slice_get servers n ≡ Some cell
    → (cell.opening ≡ opening_of n → ⊥) → IsOpened (ran_of client servers) (Server n) → ⊥
not_opened client servers n cell is wrong opened = wrong (opened cell is)

-- ---- seats

-- A seat fits, or not.
pub fits_cell : (r : Ran) (seat : Seated) (cell : ServerLog) → slice_get r.servers seat.server ≡ Some cell → cell.opening ≡ opening_of seat.server
    → Decides (is_right cell seat) (IsSeatOf r (Server seat.server) seat)
fits_cell r seat cell is opened = (λ e same. right e, λ h. back (h refl))
  where
    history_is : history_of r (Server seat.server) ≡ cell.history
    history_is = ap (λ (o : Option ServerLog). option_map_or (λ (c : ServerLog). c.history) o []) is

    right : is_right cell seat ≡ true → seat.applied ≡ times seat.number (history_of r (Server seat.server))
    right e =
        let same : seat.applied ≡ times seat.number cell.history = grind (arith, nat_tests) in
        same ∙ ap (λ (h : List HistoryEntry). times seat.number h) (sym history_is)

    back : seat.applied ≡ times seat.number (history_of r (Server seat.server)) → is_right cell seat ≡ true
    back e =
        let same : seat.applied ≡ times seat.number cell.history = e ∙ ap (λ (h : List HistoryEntry). times seat.number h) history_is in
        let me : cell.opening.me ≡ seat.server = ap (λ (o : Opening). o.me) opened in
        grind (arith, nat_tests)

-- A seat of a server that has no cell.
pub fits_none : (r : Ran) (seat : Seated) → slice_get r.servers seat.server ≡ None → Decides (seat.applied == 0) (IsSeatOf r (Server seat.server) seat)
fits_none r seat none = (λ e same. right e, λ h. back (h refl))
  where
    history_is : history_of r (Server seat.server) ≡ []
    history_is = ap (λ (o : Option ServerLog). option_map_or (λ (c : ServerLog). c.history) o []) none

    right : (seat.applied == 0) ≡ true → seat.applied ≡ times seat.number (history_of r (Server seat.server))
    right e =
        let zero : seat.applied ≡ 0 = grind (arith, nat_tests) in
        zero ∙ ap (λ (h : List HistoryEntry). times seat.number h) (sym history_is)

    back : seat.applied ≡ times seat.number (history_of r (Server seat.server)) → (seat.applied == 0) ≡ true
    back e =
        let zero : seat.applied ≡ 0 = e ∙ ap (λ (h : List HistoryEntry). times seat.number h) history_is in
        grind (arith, nat_tests)

-- The first seats fit.
abbrev pub AreFit : Ran → List Seated → ℕ → Type 0
AreFit r seats n = (i : ℕ) (seat : Seated) → i < n → slice_get seats i ≡ Some seat → IsSeatOf r (Server seat.server) seat

pub fit_none : (r : Ran) (seats : List Seated) → AreFit r seats 0
fit_none r seats = λ i seat low. absurd (omega (arith, low))

pub fit_more : (r : Ran) (seats : List Seated) (n : ℕ) (seat : Seated) → AreFit r seats n → slice_get seats n ≡ Some seat → IsSeatOf r (Server seat.server) seat
    → AreFit r seats (n + 1)
fit_more r seats n seat fit is one i other low is_other = by (i == n) refl
  where
    by : (b : Bool) → (i == n) ≡ b → IsSeatOf r (Server other.server) other
    by true same =
        let eq : i ≡ n = grind (arith, nat_tests) in
        let here : slice_get seats n ≡ Some other = ap (λ (k : ℕ). slice_get seats k) (sym eq) ∙ is_other in
        let both : seat ≡ other = cc in
        subst (λ (s : Seated). IsSeatOf r (Server s.server) s) both one
    by false apart = fit i other (grind (arith, nat_tests)) is_other

-- All fit.
pub all_fit : (r : Ran) (seats : List Seated) (n : ℕ) → AreFit r seats n → length seats ≤ n → (node : Node) → All (IsSeatOf r node) seats
all_fit r seats n fit all node = λ i d low. of_node (get_or seats i d) (fit i (get_or seats i d) (omega (arith, low, all)) (slice_get-get_or seats i d low))
  where
    of_node : (seat : Seated) → IsSeatOf r (Server seat.server) seat → IsSeatOf r node seat
    of_node seat one same = subst (λ (k : Node). IsSeatOf r k seat) same one same

-- One doesn't.
pub not_fit : (r : Ran) (seats : List Seated) (n : ℕ) (seat : Seated) → slice_get seats n ≡ Some seat → (IsSeatOf r (Server seat.server) seat → ⊥)
    → All (IsSeatOf r (Server seat.server)) seats → ⊥
not_fit r seats n seat is wrong all =
    wrong (subst (λ (s : Seated). IsSeatOf r (Server seat.server) s) (get_or_from_slice_get seats n seat seat is)
    (all n seat (slice_get_within seats n seat is)))
