use Rattle.filter_traces.proofs.AgainLemmas.{fleets_can_begin_again}
use Rattle.filter_traces.proofs.law.fleets_begin_again_law.Goals as goal

pub returns : goal.returns
returns c = fleets_can_begin_again c.frames_are_of_packets.ensures.own c.notes_are_read_back.ensures
