-- How the writes in flight lie in bits. No public contract cites this.
use Rattle.std.specs.Prelude.{ℕ, ◌+◌, ◌%◌, ◌==◌, Bool, ◌&&◌, nat_le, List, filter}
use Rattle.std.specs.Int.{bit_at}
use Rattle.fc_base.specs.Counted.{numbers_below}
use Rattle.fc_base.specs.Marks.{is_marked}

-- Bit i of a word is set.
abbrev pub is_set : ℕ → ℕ → Bool
is_set word i = bit_at word i == 1

-- A number of the last window of those issued, whose slot is marked.
abbrev pub is_current : List ℕ → ℕ → ℕ → ℕ → Bool
is_current marks window issued k = nat_le issued (k + window) && is_marked marks (k % window)

-- The numbers whose slots are marked, ascending: each number has its slot by the window.
abbrev pub marked_numbers : List ℕ → ℕ → ℕ → List ℕ
marked_numbers marks window issued = filter (is_current marks window issued) (numbers_below issued)

-- What is known of the writes in flight: the window, the number issued, and the writes in flight
-- and open, ascending.
pub record Flights : Type 0 where
  pub window : ℕ
  pub issued : ℕ
  pub in_flight : List ℕ
  pub open_writes : List ℕ

-- The writes in flight by one set of marks, and those of them that are open by another.
abbrev pub flights_of : ℕ → ℕ → List ℕ → List ℕ → Flights
flights_of window issued marks open_marks = record {
  window = window;
  issued = issued;
  in_flight = marked_numbers marks window issued;
  open_writes =
      filter (λ k. is_marked open_marks (k % window)) (marked_numbers marks window issued);
}
