use Rattle.net_world.proofs.HearingLemmas as lemmas
use Rattle.net_world.proofs.frame_law.frames_are_of_packets.Goals as goal

pub returns-clause-own : goal.returns-clause-own
returns-clause-own c = lemmas.nodes_hear_their_own

pub returns-clause-frames : goal.returns-clause-frames
returns-clause-frames c = lemmas.frames_are_of_packets
