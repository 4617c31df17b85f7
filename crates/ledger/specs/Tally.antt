-- A tally as it is kept.
use Rattle.std.specs.Prelude.{◌≡◌, ℕ, ◌≤◌, min, length, nat_lt, IsTrue}
use Rattle.std.specs.List.{list_all}
use Rattle.fc_base.specs.declared.limits.TheConstants.{MAX_BLOCKS, MAX_LISTED}
use Rattle.fc_base.specs.Ascending.{ascends}
use Rattle.recheck.specs.Report.{Tally}
use Rattle.ledger.specs.declared.tally.Tally.TheInside.{Inside}

-- The tally of some blocks, and the first block that may come next.
pub record Counts : Type 0 where
  pub next : ℕ
  pub found : Tally

-- What every tally keeps: its numbers fit together.
pub record IsTally (t : Inside) : Type 0 where
  pub next : t.next ≤ MAX_BLOCKS
  pub checked : t.checked ≤ t.next
  pub faults : t.faults ≤ t.checked
  pub listed : length t.first ≡ min t.faults MAX_LISTED
  pub ascending : IsTrue (ascends t.first)
  pub below : IsTrue (list_all (λ b. nat_lt b t.next) t.first)
