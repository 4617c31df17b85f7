use Rattle.std.proofs.Common.{◌≡◌, ◌*◌, ◌-◌, ◌≤◌, ◌++◌, length}
use Rattle.fc_base.specs.Layouts.{blocks_in}
use Rattle.messages.proofs.reading.report.blocks_of.Given as goal

abbrev pub invariant-loop : goal.invariant-loop
invariant-loop l =
    (4 * (l.count - l.counter) ≤ length l.rest)
    × (blocks_in l.count l.bytes ≡ l.found ++ blocks_in (l.count - l.counter) l.rest)
    × (length l.found ≡ l.counter)
