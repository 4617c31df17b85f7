-- What a seat shows.
use Rattle.std.specs.Prelude.{ℕ, List, map, Option, None, Result}
use Rattle.fc_base.specs.declared.fault.Fault.{Fault}
use Rattle.fc_base.specs.Counted.{numbers_below}
use Rattle.cells.specs.declared.answer.Reply.{Reply}

-- A seat: its server, its number there, how many events it has applied, and the answer of the last.
pub record Seated : Type 0 where
  pub server : ℕ
  pub number : ℕ
  pub applied : ℕ
  pub last : Option (Result Reply Fault)

-- A seat that has applied nothing.
abbrev pub new_seat : ℕ → ℕ → Seated
new_seat server number = record { server = server; number = number; applied = 0; last = None }

-- This many new seats of a server, numbered from 0 on.
abbrev pub new_seats : ℕ → ℕ → List Seated
new_seats server count = map (new_seat server) (numbers_below count)
