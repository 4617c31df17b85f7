use Rattle.program_io.proofs.ReadLemmas.{all_read, no_more}
use Rattle.program_io.proofs.law.read_law.Goals as goal

pub returns-clause-whole : goal.returns-clause-whole
returns-clause-whole c bound input new bytes read short = all_read bound input new bytes read short

pub returns-clause-fronts : goal.returns-clause-fronts
returns-clause-fronts c bound input new bytes read = no_more bound input new bytes read
