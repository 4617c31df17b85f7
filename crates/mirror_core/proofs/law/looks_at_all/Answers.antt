use Rattle.mirror_core.proofs.Looked.{looks_at_all}
use Rattle.mirror_core.proofs.law.looks_at_all.Goals as goal

pub returns : goal.returns
returns c = looks_at_all
