use Rattle.std.proofs.Common.{◌≡◌, ◌-◌}
use Rattle.std.specs.Prelude.{is_some}
use Rattle.verify_state.specs.TableReading.{states_at}
use Rattle.verify_state.proofs.table_bytes.hold_states.Given as goal

abbrev pub invariant-loop : goal.invariant-loop
invariant-loop l = is_some (states_at l.count l.bytes) ≡ is_some (states_at (l.count - l.counter) l.rest)
