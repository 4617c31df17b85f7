use Rattle.std.proofs.Common.{true, refl}
use Rattle.disk_model.proofs.LawLemmas.{lands_whole, keeps_other_blocks, replaces_one_sector}
use Rattle.disk_model.proofs.law.block_law.Goals as goal

pub returns : goal.returns
returns c = record {
  reads_back = λ file block bytes is. lands_whole (λ _. true) file block bytes is (λ i lt. refl);
  lands_whole = lands_whole;
  keeps_other_blocks = keeps_other_blocks;
  replaces_one_sector = replaces_one_sector;
}
