use Rattle.diagnosis.proofs.KindLemmas.{block_size, one_kind}
use Rattle.diagnosis.proofs.law.each_block_holds_one_kind.Goals as goal

pub returns : goal.returns
returns c e limits block bytes len a b p q = one_kind e block bytes a b (block_size e.job limits) p q
