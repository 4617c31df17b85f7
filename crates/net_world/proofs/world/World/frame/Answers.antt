use Rattle.net_world.specs.World.{world}
use Rattle.net_world.proofs.DeliverLemmas.{no_frame, frame_found}
use Rattle.net_world.proofs.world.World.frame.Goals as goal

pub returns-in_default : goal.returns-in_default
returns-in_default c w events stands = no_frame w (world w events) c.args.self.now c.args.number stands c.in_default.ensures

pub returns-in-Ok : goal.returns-in-Ok
returns-in-Ok c w events stands =
    frame_found c.sent_frames_are_read.ensures w events c.args.self.now c.args.number c.in-Some.bytes.now c.in-Ok.frame stands c.in-Some.ensures
    c.in-Ok.ensures.answer.1
