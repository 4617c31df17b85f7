use Rattle.std.proofs.Common.{true, length, ◌/◌, ◌∙◌, arith}
use Rattle.disk_model.specs.File.{first_sector}
use Rattle.disk_model.proofs.LawLemmas.{starts_whole, written_whole, read_whole, landed-whole, length-sectors}
use Rattle.disk_model.proofs.law.sector_law.Goals as goal

pub returns : goal.returns
returns c = record {
  starts_whole = λ power failures s. starts_whole;
  stays_whole = λ old new epoch block bytes result is whole.
      (written_whole old new epoch block bytes result is whole, read_whole old new block bytes result whole);
  lands_whole_sectors = λ picks file first bytes whole. (
    λ is. landed-whole picks (first_sector first (length bytes)) bytes file.content is.whole whole,
    λ len. landed-whole (λ _. true) first bytes file.content (omega arith) whole,
  );
  has_its_length = λ file block len whole even.
      length-sectors file.content (first_sector block len) (len / 512) whole ∙ omega arith;
}
