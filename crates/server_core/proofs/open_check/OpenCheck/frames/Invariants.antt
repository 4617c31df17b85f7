use Rattle.std.proofs.Common.{◌≡◌, ◌-◌, length, take}
use Rattle.server_core.specs.Replies.{check_frames_from}
use Rattle.server_core.specs.Framed.{frames_to_client}
use Rattle.server_core.specs.KeptCheck.{EachCheck}
use Rattle.server_core.proofs.open_check.OpenCheck.frames.Given as goal

abbrev pub invariant-loop-index : goal.invariant-loop-index
invariant-loop-index l = EachCheck l.self (λ c. l.frames ≡ frames_to_client l.me (check_frames_from c 0 (take l.index c.jobs)))

abbrev pub decreases-loop-index : goal.decreases-loop-index
decreases-loop-index l = length l.self.progress - l.index
