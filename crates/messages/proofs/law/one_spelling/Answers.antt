use Rattle.messages.proofs.LawLemmas.{spellings_are_read, only_packets_are_read}
use Rattle.messages.proofs.law.one_spelling.Goals as goal

pub returns-clause-read : goal.returns-clause-read
returns-clause-read c = spellings_are_read c.one_spelling.ensures.reads_back

pub returns-clause-said : goal.returns-clause-said
returns-clause-said c = only_packets_are_read c.one_spelling.ensures.is_spelled c.bytes_say_states.ensures.says_a_state
