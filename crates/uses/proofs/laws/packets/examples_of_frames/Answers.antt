use Rattle.uses.proofs.PieceLemmas as lemmas
use Rattle.uses.proofs.laws.packets.examples_of_frames.Goals as goal

pub returns-clause-few : goal.returns-clause-few
returns-clause-few c = lemmas.are_readable_and_few c.frames_are_readable.ensures c.frames_are_few.ensures

pub returns-clause-read : goal.returns-clause-read
returns-clause-read c = lemmas.piece_is_read_back c.frames_are_read_back.ensures

pub returns-clause-begins : goal.returns-clause-begins
returns-clause-begins c = lemmas.piece_begins_no_other c.no_frame_begins_another.ensures

pub returns-clause-says : goal.returns-clause-says
returns-clause-says c = lemmas.says_a_frame c.only_frames_are_read.ensures
