use Rattle.verify_state.proofs.PieceLemmas.{no_prefix}
use Rattle.verify_state.proofs.law.no_spelling_begins_another.Goals as goal

pub returns : goal.returns
returns c = no_prefix
