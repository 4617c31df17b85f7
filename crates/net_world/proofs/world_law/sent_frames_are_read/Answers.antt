use Rattle.net_world.proofs.world_law.sent_frames_are_read.Goals as goal

pub returns : goal.returns
returns c w events f few h =
    let well = c.sent_are_frames.ensures w events f few h in
    c.frames_are_read_back.ensures f well.0 well.1
