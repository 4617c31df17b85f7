use Rattle.verify_state.proofs.SpellingLemmas.{state_back, layout_back, length_back}
use Rattle.verify_state.proofs.FaultLemmas.{sound_spelling}
use Rattle.verify_state.proofs.FieldLemmas.{are_bytes}
use Rattle.verify_state.proofs.PieceLemmas.{spelled}
use Rattle.verify_state.proofs.law.one_spelling.Goals as goal

pub returns-clause-reads_back : goal.returns-clause-reads_back
returns-clause-reads_back c = λ s is. record {
  layout = layout_back s;
  long = length_back s is;
  sound = sound_spelling s is;
  said = state_back s is;
}

pub returns-clause-is_spelled : goal.returns-clause-is_spelled
returns-clause-is_spelled c = λ bytes fits e other. spelled bytes (are_bytes bytes fits) e other
