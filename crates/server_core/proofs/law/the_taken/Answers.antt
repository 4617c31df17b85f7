use Rattle.server_core.proofs.FrameLemmas.{sends_the_taken}
use Rattle.server_core.proofs.TakenLemmas.{holds_the_taken}
use Rattle.server_core.proofs.law.the_taken.Goals as goal

pub returns-clause-held : goal.returns-clause-held
returns-clause-held c = holds_the_taken

pub returns-clause-sent : goal.returns-clause-sent
returns-clause-sent c = sends_the_taken
