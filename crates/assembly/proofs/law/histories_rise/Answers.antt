use Rattle.assembly.proofs.RisingLemmas.{histories_rise as rise}
use Rattle.assembly.proofs.law.histories_rise.Goals as goal

pub returns : goal.returns
returns c = rise
