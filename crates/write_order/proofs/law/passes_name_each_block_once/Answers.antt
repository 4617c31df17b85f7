use Rattle.write_order.specs.Words.{word}
use Rattle.write_order.proofs.Permutations.{IsPermutation-pass}
use Rattle.write_order.proofs.law.passes_name_each_block_once.Goals as goal

pub returns : goal.returns
returns c job kind p = rw kind (IsPermutation-pass (word job.seed) job.blocks p)
