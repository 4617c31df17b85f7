-- What a window shows of itself, and the histories that it stands for.
use Rattle.std.specs.Prelude.{◌≡◌, ℕ, ◌+◌, ◌*◌, nat_le, nat_lt, Bool, not, ◌&&◌, List, [], ◌∷◌, ◌++◌, length, if◌then◌else◌}
use Rattle.std.specs.List.{list_any}
use Rattle.fc_base.specs.Counted.{has}
use Rattle.engine.specs.Numbers.{last_of, without}
use Rattle.engine.specs.History.{Event, issued, in_flight, open_writes, recent}
use Rattle.engine.specs.WindowRules.{IsLegal}
use Rattle.engine.specs.declared.room.Room.{Room}
use Rattle.engine.specs.declared.room.Room.TheVariants.{Open, Depth, Held}

-- The two limits, the number of writes issued, the last completions (oldest first), and the writes
-- in flight and open (ascending).
pub record Kept : Type 0 where
  pub depth : ℕ
  pub window : ℕ
  pub issued : ℕ
  pub recent : List ℕ
  pub in_flight : List ℕ
  pub open_writes : List ℕ

-- All that a window keeps of a history.
abbrev pub kept_of : ℕ → ℕ → List Event → Kept
kept_of depth window h = record {
  depth = depth;
  window = window;
  issued = issued h;
  recent = recent window h;
  in_flight = in_flight h;
  open_writes = open_writes h;
}

-- A window stands for a history that is legal under its limits, and of which it keeps just that.
pub record StandsFor (depth window : ℕ) (kept : Kept) (h : List Event) : Type 0 where
  pub legal : IsLegal depth window h
  pub kept_is : kept ≡ kept_of depth window h

-- P holds of the limits and of each history that the window stands for.
abbrev pub EachHistory : Kept → (ℕ → ℕ → List Event → Type 0) → Type 0
EachHistory kept P =
    (depth window : ℕ) (h : List Event) → StandsFor depth window kept h → P depth window h

-- For each history that the old window stands for, the new one stands for it with the event added.
abbrev pub Adds : Kept → Kept → Event → Type 0
Adds old new event = EachHistory old (λ depth window h. StandsFor depth window new (event ∷ h))

-- Some write in flight lies a window or more below the next one.
abbrev pub is_held : ℕ → ℕ → List ℕ → Bool
is_held window issued in_flight = list_any (λ j. nat_le (j + window) issued) in_flight

-- A write is issued and not in flight.
abbrev pub has_completed : ℕ → List ℕ → ℕ → Bool
has_completed issued in_flight k = nat_lt k issued && not (has in_flight k)

-- The room where the depth is reached or not, and where a write is held or not.
abbrev pub room_by : Bool → Bool → Room
room_by is_full is_held = if is_full then Depth else (if is_held then Held else Open)

-- The room for the next write, as a window sees it.
abbrev pub room_of : Kept → Room
room_of kept =
    room_by (nat_le kept.depth (length kept.in_flight))
    (is_held kept.window kept.issued kept.in_flight)

-- What the next issue leaves.
abbrev pub after_issue : Kept → Kept
after_issue kept = record kept {
  issued = kept.issued + 1;
  in_flight = kept.in_flight ++ kept.issued ∷ [];
  open_writes = kept.open_writes ++ kept.issued ∷ [];
}

-- What the completion of a write leaves.
abbrev pub after_done : Kept → ℕ → Kept
after_done kept k = record kept {
  recent = last_of (2 * kept.window) (kept.recent ++ k ∷ []);
  in_flight = without k kept.in_flight;
  open_writes = without k kept.open_writes;
}

-- What the failure of a write leaves.
abbrev pub after_fail : Kept → ℕ → Kept
after_fail kept k = record kept { open_writes = without k kept.open_writes }
