use Rattle.std.proofs.lemmas.List.Elements.{All-contains}
use Rattle.messages.specs.FrameLaws.{IsReadable}
use Rattle.net_world.specs.Frames.{frames_sent}
use Rattle.net_world.specs.Changes.{steps, trace}
use Rattle.net_world.specs.World.{world}
use Rattle.net_world.proofs.OnlySentLemmas.{heard_fits}
use Rattle.net_world.proofs.WorldFitLemmas.{world_fits}
use Rattle.net_world.proofs.FrameRangeLemmas.{sent_readable}
use Rattle.net_world.proofs.world_law.sent_are_frames.Goals as goal

pub returns : goal.returns
returns c w events f few h =
    let past = world w events in
    let fits = world_fits (record { fit = c.reports_fit.ensures; sets = c.legal_histories.ensures.checks }) w events few in
    let ranges = c.sent_are_in_range.ensures w (trace w past) (c.each_world_is_a_trace.ensures.packets w events few) (heard_fits w (steps past) fits) in
    let all = sent_readable c.frames_are_readable.ensures c.frames_are_of_packets.ensures.frames w (steps past) ranges in
    let well = All-contains IsReadable (frames_sent w (steps past)) f all h in
    (well.in_range, well.is_short)
