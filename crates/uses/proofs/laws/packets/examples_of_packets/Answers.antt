use Rattle.std.proofs.Common.{refl}
use Rattle.fc_base.specs.Layouts.{bytes_of}
use Rattle.verify_state.specs.Spelling as states
use Rattle.messages.specs.Bodies.{spelled_state}
use Rattle.uses.proofs.PacketLemmas as lemmas
use Rattle.uses.proofs.laws.packets.examples_of_packets.Goals as goal

pub returns-clause-read : goal.returns-clause-read
returns-clause-read c = lemmas.is_read_back c.one_spelling.ensures.read

pub returns-clause-says : goal.returns-clause-says
returns-clause-says c = lemmas.says_a_packet c.one_spelling.ensures.said

pub returns-clause-begins : goal.returns-clause-begins
returns-clause-begins c = lemmas.begins_no_other c.no_spelling_begins_another.ensures

pub returns-clause-within : goal.returns-clause-within
unfolding bytes_of spelled_state states.spelling states.key_bytes states.job_bytes
returns-clause-within c = lemmas.is_within_its_length _ refl refl c.lengths_are_bounded.ensures
