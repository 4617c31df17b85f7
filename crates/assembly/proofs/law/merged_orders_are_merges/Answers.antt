use Rattle.assembly.proofs.MergedLemmas.{merged_orders_are_merges as merges}
use Rattle.assembly.proofs.law.merged_orders_are_merges.Goals as goal

pub returns : goal.returns
returns c = merges
