use Rattle.std.proofs.Common.{sym, arith}
use Rattle.std.specs.Prelude.{is_some}
use Rattle.verify_state.specs.TableReading.{states_at}
use Rattle.verify_state.proofs.ReadingLemmas.{one_seen}
use Rattle.verify_state.proofs.table_bytes.hold_states.Goals as goal

pub loop-preserved : goal.loop-preserved
loop-preserved c =
    one_seen (is_some (states_at c.args.count c.args.bytes.now)) c.args.count c.loop.counter c.loop.rest.now _ _
    (omega arith) c.loop.invariant (sym c.in-Some.ensures)
