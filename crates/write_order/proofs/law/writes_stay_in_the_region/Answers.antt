use Rattle.write_order.proofs.Permutations.{block_of-below}
use Rattle.write_order.proofs.LawLemmas.{block_limits}
use Rattle.write_order.proofs.law.writes_stay_in_the_region.Goals as goal

pub returns : goal.returns
returns c job limits k = block_of-below job k (block_limits job limits).blocks
