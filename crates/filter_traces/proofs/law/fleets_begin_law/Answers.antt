use Rattle.filter_traces.proofs.BeginLemmas.{fleets_can_begin}
use Rattle.filter_traces.proofs.law.fleets_begin_law.Goals as goal

pub returns : goal.returns
returns c = fleets_can_begin c.frames_are_of_packets.ensures.own
