use Rattle.std.proofs.Common.{◌≡◌, ◌++◌, take}
use Rattle.std.specs.List.{flat_map}
use Rattle.verify_state.specs.Spelling.{spelling as state_bytes}
use Rattle.verify_state.specs.TableBytes.{counted_bytes}
use Rattle.verify_state.proofs.table_bytes.put_states.Given as goal

abbrev pub invariant-loop-state : goal.invariant-loop-state
invariant-loop-state l = l.out.items ≡ l.fn.out.items ++ flat_map (λ s. counted_bytes (state_bytes s)) (take l.state-index l.states)
