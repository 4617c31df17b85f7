use Rattle.std.proofs.Common.{◌≡◌, ◌-◌, ◌++◌, length}
use Rattle.std.specs.Option.{option_map}
use Rattle.verify_state.specs.TableReading.{states_at}
use Rattle.verify_state.proofs.table_bytes.states_in.Given as goal

abbrev pub invariant-loop : goal.invariant-loop
invariant-loop l =
    (length l.kept ≡ l.counter)
    × (states_at l.count l.bytes ≡ option_map (λ states. l.kept ++ states) (states_at (l.count - l.counter) l.rest))
