-- How the sets of a legal history's writes lie to each other, and the room that they leave.
use Rattle.std.specs.Prelude.{◌≡◌, ℕ, ◌<◌, ◌≤◌, nat_lt, true, not, ◌&&◌, List}
use Rattle.fc_base.specs.Counted.{has}
use Rattle.engine.specs.History.{Event, failures, issued, is_done, in_flight, open_writes}
use Rattle.engine.specs.WindowRules.{IsLegal, HasRoom}
use Rattle.engine.specs.Kept.{kept_of, room_of}

-- A write is in flight where it was issued and hasn't completed.
abbrev pub InFlightIsNotDone : Type 0
InFlightIsNotDone =
    (depth window : ℕ) (h : List Event) →
    IsLegal depth window h → (k : ℕ)
    → has (in_flight h) k ≡ (nat_lt k (issued h) && not (is_done h k))

-- A write is open where it is in flight and hasn't failed.
abbrev pub OpenIsNotFailed : Type 0
OpenIsNotFailed =
    (h : List Event) (k : ℕ) → has (open_writes h) k
    ≡ (has (in_flight h) k && not (has (failures h) k))

-- Each write that has completed was issued.
abbrev pub DoneWasIssued : Type 0
DoneWasIssued =
    (depth window : ℕ) (h : List Event) →
    IsLegal depth window h → (k : ℕ) → is_done h k ≡ true → k < issued h

-- The room that a window sees is the one that the rules leave.
abbrev pub RoomIsRight : Type 0
RoomIsRight =
    (depth window : ℕ) (h : List Event) →
    1 ≤ window → IsLegal depth window h → HasRoom depth window h (room_of (kept_of depth window h))
