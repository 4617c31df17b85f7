use Rattle.recheck.proofs.EndLemmas.{faults_end}
use Rattle.recheck.proofs.law.faults_end_checks.Goals as goal

pub returns : goal.returns
returns c fatal e held n m le ended = faults_end fatal e held n m le ended
