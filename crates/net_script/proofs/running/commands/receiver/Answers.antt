use Rattle.std.proofs.Common.{None, Some}
use Rattle.net_world.specs.Changes.{steps}
use Rattle.net_world.specs.Frames.{frames_sent}
use Rattle.net_world.specs.World.{world}
use Rattle.net_script.proofs.ReceiverLemmas.{looked_at, receiver_is, never_unknown}
use Rattle.net_script.proofs.running.commands.receiver.Goals as goal

pub returns-in_err-look : goal.returns-in_err-look
returns-in_err-look c setup before stands =
    absurd (never_unknown (frames_sent setup (steps (world setup before))) c.args.frame
    (looked_at c.sent_are_frames.ensures setup before stands.few _
    (c.frames.ensures setup (world setup before) stands) c.args.frame _ c.in_ok-bytes.ensures None c.in_err-look.ensures.frames))

pub returns : goal.returns
returns c setup before stands =
    receiver_is (frames_sent setup (steps (world setup before))) c.args.frame c.in_ok-look.look
    (looked_at c.sent_are_frames.ensures setup before stands.few _ (c.frames.ensures setup (world setup before) stands) c.args.frame _ c.in_ok-bytes.ensures
    (Some c.in_ok-look.look) c.in_ok-look.ensures.frames)
