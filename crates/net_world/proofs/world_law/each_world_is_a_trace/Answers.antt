use Rattle.net_world.specs.Changes.{steps}
use Rattle.net_world.specs.World.{world}
use Rattle.net_world.proofs.WorldTraceLemmas.{each_world_is_a_frame_trace}
use Rattle.net_world.proofs.WorldFitLemmas.{world_fits}
use Rattle.net_world.proofs.world_law.each_world_is_a_trace.Goals as goal

pub returns-clause-frames : goal.returns-clause-frames
returns-clause-frames c = each_world_is_a_frame_trace

pub returns-clause-packets : goal.returns-clause-packets
returns-clause-packets c w events few =
    c.only_sent_is_heard.ensures w (steps (world w events)) (each_world_is_a_frame_trace w events)
    (world_fits (record { fit = c.reports_fit.ensures; sets = c.legal_histories.ensures.checks }) w events few)
