use Rattle.messages.proofs.FrameSaid.{only_frames_are_read}
use Rattle.messages.proofs.piece_law.only_frames_are_read.Goals as goal

pub returns : goal.returns
returns c =
    only_frames_are_read c.one_spelling.ensures.reads_back c.one_spelling.ensures.is_spelled c.bytes_say_states.ensures.says_a_state
    c.one_spelling-2.ensures.said
