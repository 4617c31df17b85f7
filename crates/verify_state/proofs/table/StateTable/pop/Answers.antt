use Rattle.std.proofs.Common.{subst}
use Rattle.std.specs.Option.{option_to_list}
use Rattle.verify_state.specs.Table.{IsTable}
use Rattle.verify_state.proofs.EntryLemmas.{table_front}
use Rattle.verify_state.proofs.table.StateTable.pop.Goals as goal

pub invariant_of-self-2 : goal.invariant_of-self-2
invariant_of-self-2 c = table_front c.pop.new.self.entries (option_to_list c.pop.result) (subst IsTable c.pop.ensures.entries c.self.invariant)
