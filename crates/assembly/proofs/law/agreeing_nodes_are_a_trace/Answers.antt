use Rattle.assembly.proofs.TraceLemmas.{agreeing_nodes_are_a_trace as agree}
use Rattle.assembly.proofs.law.agreeing_nodes_are_a_trace.Goals as goal

pub returns : goal.returns
returns c = agree c.merges_name_a_trace.ensures c.merged_orders_are_merges.ensures
